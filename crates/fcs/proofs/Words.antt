-- What leaves above the division comes back below as words: half a byte at a time, and two bytes at once.
-- Assumes nothing.
use mathlib.Core.Path.{◌≡◌, refl, sym, ap, ap₂, ◌∙◌}
use Prim.Native.Nat.{ℕ, ◌+◌, ◌*◌, ◌/◌, ◌%◌, ◌^◌, ◌<◌}
use mathlib.Core.List.{[], ◌∷◌, foldl}
use native.Mathlib.Omega.{arith}
use Rattle.numbers.specs.Bits.{◌⊕◌, bit}
use Rattle.numbers.specs.Packing.{bits_of, bits_in}
use Rattle.numbers.proofs.Packing.{bits_in_lem}
use Rattle.numbers.proofs.Every.{every}
use Rattle.numbers.proofs.Xor.{⊕_assoc}
use Rattle.fcs.specs.Fcs.{step, bits, byte_step, fcs}
use Rattle.fcs.specs.Words.{word_of, half_step, by_halves}
use Rattle.fcs.specs.Claims.{HalfBytes}
use Rattle.fcs.proofs.Division.{fold_lt}
use Rattle.fcs.proofs.Zeros.{leave, leave_additive, divided}
use Rattle.fcs.proofs.Shortest.{short}
use Rattle.fcs.proofs.Sums.{Additive, same, shr, low, shl, plus, after, agree}

-- a word is what its half byte comes back as
comes_back : (i : ℕ) → word_of (i % 16) ≡ leave 16 (i % 16)
unfolding leave fcs bits_of bits_in bit
comes_back i = ap (leave 16) (short.1 (i % 16) (omega arith))

-- half a byte of zero bits more
half : ℕ → ℕ
half r = r % 2 ^ 12 * 2 ^ 4 ⊕ leave 16 (r / 2 ^ 12 % 2 ^ 4)

half_additive : Additive half
unfolding half
half_additive = plus (after (shl 4) (low 12)) (after (leave_additive 16) (after (low 4) (shr 12)))

half_step_lem : (r h : ℕ) → half_step r h ≡ half r ⊕ h
unfolding half_step half
half_step_lem r h = ap (λ (w : ℕ). r % 4096 * 16 ⊕ w ⊕ h) (comes_back (r / 4096))

two_halves : (r : ℕ) → r < 2 ^ 16 → half (half r) ≡ leave 8 r
unfolding half leave every bit step ◌⊕◌
two_halves = agree (after half_additive half_additive) (leave_additive 8) 16 refl

halves_of : (b : ℕ) → b < 2 ^ 8 → half (b / 16) ⊕ b % 16 ≡ b
unfolding half leave every bit step ◌⊕◌
halves_of = agree (plus (after half_additive (shr 4)) (low 4)) same 8 refl

pub half_bytes : HalfBytes
unfolding byte_step by_halves
half_bytes r b hr hb =
    half_step_lem (half_step r (b / 16)) (b % 16)
    ∙ ap (λ (n : ℕ). half n ⊕ b % 16) (half_step_lem r (b / 16))
    ∙ ap (λ (n : ℕ). n ⊕ b % 16) (half_additive.adds (half r) (b / 16))
    ∙ ⊕_assoc _ _ _
    ∙ ap₂ (λ (x y : ℕ). x ⊕ y) (two_halves r hr) (halves_of b hb ∙ sym (short.1 b hb))
    ∙ sym (divided (b ∷ []) r)

pub two_bytes : (r a b : ℕ) → r < 2 ^ 16 → a < 256 → b < 256 → by_halves (by_halves r a) b ≡ foldl step r (bits (a ∷ b ∷ []))
unfolding byte_step bits_of bits_in
two_bytes r a b hr ha hb =
    ap (λ (n : ℕ). by_halves n b) (half_bytes r a hr ha) ∙ half_bytes _ b (fold_lt (bits (a ∷ [])) r (bits_in_lem 8 (a ∷ [])) hr) hb

-- the quotient's half bytes, from above: those of r, of `folded r` and, the last two, of `quotient_of r`
unfoldable pub folded : ℕ → ℕ
folded r = r ⊕ r / 2 ^ 4

folded_additive : Additive folded
unfolding folded
folded_additive = plus same (shr 4)

unfoldable pub quotient_of : ℕ → ℕ
quotient_of r = folded r ⊕ folded r / 2 ^ 8 ⊕ r / 2 ^ 11

quotient_additive : Additive quotient_of
unfolding quotient_of
quotient_additive = plus (plus folded_additive (after (shr 8) folded_additive)) (shr 11)

-- their words, each in its place
unfoldable pub joined : (ℕ → ℕ) → ℕ → ℕ
joined w r = w (r / 4096 % 16) % 16 * 4096 ⊕ w (folded r / 256 % 16) % 256 * 256 ⊕ w (quotient_of r / 16 % 16) % 4096 * 16 ⊕ w (quotient_of r % 16)

joined_additive : Additive (joined (leave 16))
unfolding joined
joined_additive =
    let place : (k j : ℕ) → Additive (λ r. leave 16 (r / 2 ^ k % 2 ^ 4) % 2 ^ j * 2 ^ k) = λ k j. after (shl k) (after (low j) (after (leave_additive 16) (after (low 4) (shr k)))) in
    plus (plus (plus (place 12 4) (after (place 8 8) folded_additive)) (after (place 4 12) quotient_additive)) (after (after (leave_additive 16) (low 4)) quotient_additive)

at_once : (r : ℕ) → r < 2 ^ 16 → joined (leave 16) r ≡ leave 16 r
unfolding joined folded quotient_of leave every bit step ◌⊕◌
at_once = agree joined_additive (leave_additive 16) 16 refl

by_words : (r : ℕ) → joined word_of r ≡ joined (leave 16) r
unfolding joined
by_words r = rw (comes_back (r / 4096), comes_back (folded r / 256), comes_back (quotient_of r / 16), comes_back (quotient_of r))

pub by_pair : (r a b : ℕ) → r < 2 ^ 16 → a < 256 → b < 256 → joined word_of r ⊕ (256 * a + b) ≡ by_halves (by_halves r a) b
by_pair r a b hr ha hb =
    ap₂ (λ (x y : ℕ). x ⊕ y) (by_words r ∙ at_once r hr) (sym (short.2 a b ha hb)) ∙ sym (divided (a ∷ b ∷ []) r) ∙ sym (two_bytes r a b hr ha hb)
