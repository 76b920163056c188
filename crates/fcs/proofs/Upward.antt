-- The number that bits make, the lowest bit first, and that of a message as a serial line sends it.
-- Assumes nothing.
use mathlib.Core.Path.{◌≡◌, refl, sym, ap, ◌∙◌}
use Prim.Native.Nat.{ℕ, zero, suc, ◌+◌, ◌-◌, ◌*◌, ◌/◌, ◌%◌, ◌^◌, ◌≤◌, ◌<◌}
use mathlib.Core.List.{List, [], ◌∷◌, ◌++◌}
use native.Mathlib.Omega.{arith}
use native.Mathlib.Nat.{pow-succ'}
use native.Mathlib.Numerals.{add-one}
use lib.ListN.{take, drop}
use lib.Pow.{pow_pos, mod-pow-add}
use Rattle.numbers.specs.Bits.{AreBits}
use Rattle.numbers.proofs.Packing.{both_bits}
use Rattle.fcs.specs.Flips.{ones, low_bit_first, serial_bits}
use Rattle.fcs.proofs.Rows.{Shifted, ones_part, split_zeros, no_rest}

abbrev upward : List ℕ → ℕ
upward [] = 0
upward (w ∷ ws) = w + upward ws * 2

ones_upward : (ws : List ℕ) → ones ws ≤ upward ws
unfolding ones
ones_upward [] = omega arith
ones_upward (w ∷ ws) = omega (arith, ones_upward ws)

upward_front : (n : ℕ) (ws : List ℕ) → AreBits ws → ones (take n ws) ≡ ones ws → upward ws < 2 ^ n
unfolding ones
upward_front n [] hs s = pow_pos n
upward_front zero (w ∷ ws) hs s = omega (arith, upward_front 0 ws hs.1 (omega arith))
upward_front (suc n) (w ∷ ws) hs s = omega (arith, hs.0, upward_front n ws hs.1 (omega arith))

upward_row : (n i : ℕ) (ws : List ℕ) → AreBits ws → ones (take n (drop i ws)) ≡ ones ws → Shifted n (upward ws)
unfolding ones
upward_row n zero ws hs s = record { part = upward ws; places = 0; small = upward_front n ws hs s; is = omega arith }
upward_row n (suc i) [] hs s = record { part = 0; places = 0; small = pow_pos n; is = refl }
upward_row n (suc i) (zero ∷ ws) hs s =
    let r = upward_row n i ws hs.1 (omega arith) in
    record { part = r.part; places = suc r.places; small = r.small; is = rw (pow-succ' 2 r.places) (omega (arith, r.is)) }
upward_row n (suc i) (suc w ∷ ws) hs s = absurd (omega (arith, ones_part n i ws))

upward_low : (k n : ℕ) (ws : List ℕ) → upward (low_bit_first k n ++ ws) ≡ n % 2 ^ k + upward ws * 2 ^ k
unfolding low_bit_first
upward_low zero n ws = omega arith
upward_low (suc k) n ws =
    rw (ap (λ (j : ℕ). n % 2 ^ j) (sym (add-one k)) ∙ mod-pow-add n k 1, pow-succ' 2 k) (omega (arith, upward_low k (n / 2) ws))

low_bits : (k n : ℕ) → AreBits (low_bit_first k n)
unfolding low_bit_first
low_bits zero n = tt
low_bits (suc k) n = (omega arith, low_bits k (n / 2))

serial_bits_lem : (m : List ℕ) → AreBits (serial_bits m)
unfolding serial_bits
serial_bits_lem [] = tt
serial_bits_lem (b ∷ bs) = both_bits (low_bit_first 8 b) (serial_bits bs) (low_bits 8 b) (serial_bits_lem bs)

-- a message as a number, its first byte lowest
unfoldable pub upward_of : List ℕ → ℕ
upward_of m = upward (serial_bits m)

pub byte_first : (b : ℕ) (bs : List ℕ) → upward_of (b ∷ bs) ≡ b % 256 + upward_of bs * 256
unfolding upward_of serial_bits
byte_first b bs = upward_low 8 b (serial_bits bs)

pub serial_row : (m : List ℕ) (i : ℕ) → ones (take 16 (drop i (serial_bits m))) ≡ ones (serial_bits m) → (ones (serial_bits m) ≤ upward_of m) × Shifted 16 (upward_of m)
unfolding upward_of
serial_row m i all = (ones_upward (serial_bits m), upward_row 16 i (serial_bits m) (serial_bits_lem m) all)

-- a first byte with no bit of a number that has 8 zero bits or more behind it
pub pass_over : (b : ℕ) (bs : List ℕ) (u k : ℕ) → 8 ≤ k → upward_of (b ∷ bs) ≡ u * 2 ^ k → (b % 256 ≡ 0) × (upward_of bs ≡ u * 2 ^ (k - 8))
pass_over b bs u k h s =
    let q = u * 2 ^ (k - 8) in
    let z : upward_of bs * 256 + b % 256 ≡ q * 256 = omega (arith, byte_first b bs) ∙ s ∙ split_zeros u k 8 h in
    let b0 : b % 256 ≡ 0 = no_rest (upward_of bs) q (b % 256) (omega arith) z in
    (b0, omega arith)
