-- Flips within 16 bits in a row as a serial line sends them, over the border from the message to its check sequence.
-- Assumes nothing.
use mathlib.Core.Path.{◌≡◌, refl, ap, ◌∙◌, subst}
use mathlib.Core.Bool.{Bool, true, false}
use Prim.Native.Nat.{ℕ, zero, suc, ◌+◌, ◌-◌, ◌*◌, ◌%◌, ◌^◌, ◌≤◌, ◌<◌}
use mathlib.Core.List.{List, [], ◌∷◌, ◌++◌}
use native.Mathlib.Omega.{arith}
use native.Mathlib.Nat.{mul-le-mul_right}
use lib.Dec.{ltb}
use lib.ListN.{length}
use lib.Pow.{pow_pos, pow_mono, pow-add, shl_lt}
use borrow.Author.Tests.{ltb-true, ltb-false}
use Rattle.numbers.specs.Bits.{AreBits}
use Rattle.numbers.specs.Packing.{bits_of, bits_in}
use Rattle.numbers.proofs.Packing.{bits_in_lem, length-bits_in}
use Rattle.fcs.specs.Fcs.{bits}
use Rattle.fcs.specs.Flips.{serial_bits}
use Rattle.fcs.specs.Claims.{SerialBorder}
use Rattle.fcs.proofs.Division.{behind}
use Rattle.fcs.proofs.Rows.{split_zeros}
use Rattle.fcs.proofs.Shortest.{number_of, itself}
use Rattle.fcs.proofs.Upward.{upward_of, byte_first, serial_row, pass_over}

-- a first byte of no flips changes no number
number_first : (b : ℕ) (bs : List ℕ) → b % 256 ≡ 0 → behind 0 (bits (b ∷ bs)) ≡ behind 0 (bits bs)
unfolding bits_of bits_in
number_first b bs e = ap (λ (n : ℕ). behind n (bits bs)) (number_of 8 b 0 ∙ omega arith)

number_lt : (ws : List ℕ) (r k : ℕ) → AreBits ws → r < 2 ^ k → behind r ws < 2 ^ (k + length ws)
number_lt [] r k hs h = subst (λ (n : ℕ). r < 2 ^ n) (omega arith) h
number_lt (w ∷ ws) r k hs h = subst (λ (n : ℕ). behind r (w ∷ ws) < 2 ^ n) (omega arith) (number_lt ws (r * 2 + w) (suc k) hs.1 (omega (arith, hs.0)))

-- flips of a message, all of them in its last j bytes
last_by : (j b : ℕ) (bs : List ℕ) (low high u k : ℕ) → upward_of (b ∷ bs ++ low ∷ high ∷ []) ≡ u * 2 ^ k → length (b ∷ bs) * 8 < k + j * 8
    → ((i : ℕ) → upward_of (bs ++ low ∷ high ∷ []) ≡ u * 2 ^ i → length bs * 8 < i + j * 8 → behind 0 (bits bs) < 2 ^ (j * 8))
    → behind 0 (bits (b ∷ bs)) < 2 ^ (j * 8)
last_by j b bs low high u k s l rest = go (ltb k 8) refl
  where
    go : (t : Bool) → ltb k 8 ≡ t → behind 0 (bits (b ∷ bs)) < 2 ^ (j * 8)
    go true f =
        let m = b ∷ bs in
        let few : 0 + length (bits m) ≤ j * 8 = omega (arith, length-bits_in 8 m, ltb-true k 8 f) in
        omega (arith, number_lt (bits m) 0 0 (bits_in_lem 8 m) (omega arith), pow_mono few)
    go false f =
        let p = pass_over b (bs ++ low ∷ high ∷ []) u k (ltb-false k 8 f) s in
        omega (arith, number_first b bs p.0, rest (k - 8) p.1 (omega (arith, ltb-false k 8 f)))

last_bytes : (j : ℕ) (m : List ℕ) (low high u k : ℕ) → upward_of (m ++ low ∷ high ∷ []) ≡ u * 2 ^ k → length m * 8 < k + j * 8 → behind 0 (bits m) < 2 ^ (j * 8)
unfolding bits_in
last_bytes j [] low high u k s l = pow_pos (j * 8)
last_bytes j (b ∷ bs) low high u k s l = last_by j b bs low high u k s l (λ i. last_bytes j bs low high u i)

-- what stands behind the bytes of a message counts 256 times for each of them
above : (m s : List ℕ) → upward_of s * 2 ^ (length m * 8) ≤ upward_of (m ++ s)
above [] s = omega arith
above (b ∷ bs) s =
    let more : length (b ∷ bs) * 8 - 8 ≡ length bs * 8 = omega arith in
    let byte : upward_of s * 2 ^ (length (b ∷ bs) * 8) ≡ upward_of s * 2 ^ (length bs * 8) * 256
    = split_zeros (upward_of s) (length (b ∷ bs) * 8) 8 (omega arith) ∙ ap (λ (k : ℕ). upward_of s * 2 ^ k * 256) more in
    omega (arith, byte_first b (bs ++ s), above bs s)

-- so 16 bits in a row that reach bit t behind them begin less than 16 before it
reach : (m s : List ℕ) (t u k : ℕ) → u < 2 ^ 16 → upward_of (m ++ s) ≡ u * 2 ^ k → 2 ^ t ≤ upward_of s → t + length m * 8 < 16 + k
reach m s t u k h e r = go (ltb (t + length m * 8) (16 + k)) refl
  where
    go : (b : Bool) → ltb (t + length m * 8) (16 + k) ≡ b → t + length m * 8 < 16 + k
    go true f = ltb-true (t + length m * 8) (16 + k) f
    go false f =
        absurd (omega (arith, pow_mono (ltb-false (t + length m * 8) (16 + k) f), pow-add 2 t (length m * 8), mul-le-mul_right (2 ^ (length m * 8)) r, above m s, shl_lt 16 k h))

unless_zero : (n : ℕ) → (1 ≤ n → n ≡ 0) → n ≡ 0
unless_zero zero f = refl
unless_zero (suc n) f = f (omega arith)

pub serial_border : SerialBorder
unfolding upward_of serial_bits
serial_border flips low high i hl hh all some =
    let s = low ∷ high ∷ [] in
    let r = (serial_row (flips ++ s) i all).1 in
    let v : upward_of s ≡ low + high * 256 = byte_first low (high ∷ []) ∙ omega (arith, byte_first high []) in
    let near : (t : ℕ) → 2 ^ t ≤ upward_of s → t + length flips * 8 < 16 + r.places = λ t. reach flips s t r.part r.places r.small r.is in
    let last : (j : ℕ) → length flips * 8 < r.places + j * 8 → behind 0 (bits flips) < 2 ^ (j * 8) = λ j. last_bytes j flips low high r.part r.places r.is in (
      itself flips (behind 0 (bits flips)) refl (last 2 (omega (arith, near 0 (omega arith)))),
      λ e. unless_zero high (λ some. omega (arith, last 1 (omega (arith, near 8 (omega arith))))),
    )
