-- All the ones of a list among n bits in a row: the number that the list makes.
-- Assumes nothing.
use mathlib.Core.Path.{◌≡◌, refl, sym, ap, ◌∙◌, subst}
use Prim.Native.Nat.{ℕ, zero, suc, ◌+◌, ◌-◌, ◌*◌, ◌^◌, ◌≤◌, ◌<◌}
use mathlib.Core.List.{List, [], ◌∷◌, ◌++◌}
use native.Mathlib.Omega.{arith}
use native.Mathlib.Nat.{mul_assoc}
use lib.Pow.{pow_pos, pow_mono, pow-add}
use lib.ListN.{length, take, drop}
use Rattle.numbers.specs.Bits.{AreBits}
use Rattle.numbers.specs.Packing.{bits_of, bits_in}
use Rattle.numbers.proofs.Packing.{bits_join, bits_in-append}
use Rattle.fcs.specs.Fcs.{bits}
use Rattle.fcs.specs.Flips.{ones}
use Rattle.fcs.proofs.Division.{behind}
use Rattle.fcs.proofs.Zeros.{blank_bits, shifted}

ones-take : (n : ℕ) (ws : List ℕ) → ones (take n ws) ≤ ones ws
unfolding ones
ones-take zero ws = omega arith
ones-take (suc n) [] = omega arith
ones-take (suc n) (w ∷ ws) = omega (arith, ones-take n ws)

pub ones_part : (n i : ℕ) (ws : List ℕ) → ones (take n (drop i ws)) ≤ ones ws
unfolding ones
ones_part n zero ws = ones-take n ws
ones_part n (suc i) [] = ones-take n []
ones_part n (suc i) (w ∷ ws) = omega (arith, ones_part n i ws)

ones-append : (xs ys : List ℕ) → ones (xs ++ ys) ≡ ones xs + ones ys
unfolding ones
ones-append [] ys = omega arith
ones-append (x ∷ xs) ys = omega (arith, ones-append xs ys)

pub ones_behind : (m s : List ℕ) → ones (bits (m ++ s)) ≡ ones (bits m) + ones (bits s)
ones_behind m s = ap ones (bits_in-append 8 m s) ∙ ones-append (bits m) (bits s)

-- the sequence's ones, as a number and as two bytes, low byte first
pub ones_sequence : (low high : ℕ) → low < 256 → ones (bits_of 16 (256 * high + low)) ≡ ones (bits (low ∷ high ∷ []))
unfolding ones bits_of bits_in
ones_sequence low high h =
    let shift : 256 * high + low ≡ high * 256 + low = omega arith in
    ap (λ (n : ℕ). ones (bits_of 16 n)) shift ∙ ap ones (sym (bits_join 8 8 high low h)) ∙ omega arith

-- a number of n bits, some zero bits behind it
pub record Shifted (n z : ℕ) : Type 0 where
  pub part : ℕ
  pub places : ℕ
  pub small : part < 2 ^ n
  pub is : z ≡ part * 2 ^ places

front : (j n : ℕ) (ws : List ℕ) (r : ℕ) → AreBits ws → r < 2 ^ j → ones (take n ws) ≡ ones ws → Shifted (j + n) (behind r ws)
unfolding ones
front j zero ws r hs h s =
    record { part = r; places = length ws; small = subst (λ (k : ℕ). r < 2 ^ k) (omega arith) h; is = ap (behind r) (blank_bits ws (sym s)) ∙ shifted (length ws) r }
front j (suc n) [] r hs h s =
    let more : j ≤ j + suc n = omega arith in
    record { part = r; places = 0; small = omega (arith, pow_mono more); is = omega arith }
front j (suc n) (w ∷ ws) r hs h s =
    subst (λ (k : ℕ). Shifted k (behind r (w ∷ ws))) (omega arith) (front (suc j) n ws (r * 2 + w) hs.1 (omega (arith, hs.0)) (omega arith))

pub row : (n i : ℕ) (ws : List ℕ) → AreBits ws → ones (take n (drop i ws)) ≡ ones ws → Shifted n (behind 0 ws)
unfolding ones
row n zero ws hs s = subst (λ (k : ℕ). Shifted k (behind 0 ws)) (omega arith) (front 0 n ws 0 hs (omega arith) s)
row n (suc i) [] hs s = record { part = 0; places = 0; small = pow_pos n; is = refl }
row n (suc i) (zero ∷ ws) hs s = row n i ws hs.1 (omega arith)
row n (suc i) (suc w ∷ ws) hs s = absurd (omega (arith, ones_part n i ws))

-- k zero bits behind a number, the last j of them apart
pub split_zeros : (u k j : ℕ) → j ≤ k → u * 2 ^ k ≡ u * 2 ^ (k - j) * 2 ^ j
split_zeros u k j h =
    let there : k ≡ k - j + j = omega arith in
    ap (λ (n : ℕ). u * 2 ^ n) there ∙ ap (λ (n : ℕ). u * n) (pow-add 2 (k - j) j) ∙ sym (mul_assoc u (2 ^ (k - j)) (2 ^ j))

pub no_rest : (m q r : ℕ) → r < 256 → m * 256 + r ≡ q * 256 → r ≡ 0
no_rest m q r h e = omega arith
