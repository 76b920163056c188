-- Two's complement: both directions of a field, and what the machine computes by `!` at any width.
-- Assumes nothing.
use mathlib.Core.Path.{◌≡◌, refl, sym, ap, ◌∙◌, subst}
use mathlib.Core.Bool.{Bool, true, false, cond}
use Prim.Native.Nat.{ℕ, suc, ◌-◌, ◌*◌, ◌^◌, ◌≤◌, ◌<◌}
use native.Mathlib.Omega.{arith}
use lib.Dec.{T, ltb, lit≤}
use lib.IntN.{ℤ, pos, negsuc, nat_abs}
use lib.Signed.{mag, lt_z, non_neg}
use mir.Syntax.{Width, w8, w16, w32, w64, w128}
use mir.Val.{to_z, of_z, Fits, SFits, bits, hbits}
use mir.Facts.{to_z_pos, to_z-neg, to_z-of_z}
use borrow.Author.Tests.{lt-ltb, le-ltb, ltb-true}
use Rattle.numbers.specs.Signed.{signed_in, field_of}

pub field_signed : (half n : ℕ) → n < 2 * half → field_of half (signed_in half n) ≡ n
unfolding signed_in
field_signed half n h = go (ltb n half)
  where
    go : (t : Bool) → field_of half (cond t (pos n) (negsuc (2 * half - 1 - n))) ≡ n
    go true = unfold field_of in refl
    go false = unfold field_of in omega arith

pub signed_field : (half : ℕ) (z : ℤ) → mag z < half → signed_in half (field_of half z) ≡ z
unfolding signed_in field_of
signed_field half (pos n) h = simp (lt-ltb n half h)
signed_field half (negsuc k) h =
    let back : 2 * half - 1 - (2 * half - 1 - k) ≡ k = omega arith in
    simp (le-ltb (2 * half - 1 - k) half (omega arith), back)

pub field_fits : (half : ℕ) (z : ℤ) → mag z < half → field_of half z < 2 * half
unfolding field_of
field_fits half (pos n) h = omega arith
field_fits half (negsuc k) h = omega arith

module _ (w : Width) where
  within : 2 ^ hbits w ≤ 2 ^ bits w
  within = go w
    where
      go : (w : Width) → 2 ^ hbits w ≤ 2 ^ bits w
      go w8 = lit≤ tt
      go w16 = lit≤ tt
      go w32 = lit≤ tt
      go w64 = lit≤ tt
      go w128 = lit≤ tt

  pub low : (half n : ℕ) → n < half → half ≤ 2 ^ hbits w → to_z w n ≡ signed_in half n
  unfolding signed_in
  low half n h k = to_z_pos w {n = n} (omega arith) ∙ sym (simp (lt-ltb n half h))

  -- `!` of what is left up to the field's largest
  pub high : (half n : ℕ) → half ≤ n → 2 * half - 1 - n < 2 ^ hbits w → to_z w (2 ^ bits w - 1 - (2 * half - 1 - n)) ≡ signed_in half n
  unfolding signed_in
  high half n h k =
      let d : ℕ = 2 * half - 1 - n in
      let flip : 2 ^ bits w - 1 - d ≡ 2 ^ bits w - suc d = omega arith in
      ap (to_z w) flip ∙ to_z-neg w d k ∙ sym (simp (le-ltb n half h))

  -- what the test `n < 0` says
  pub negative : (z : ℤ) → SFits w z → lt_z (to_z w (of_z w z)) (pos 0) ≡ true → z ≡ negsuc (mag z)
  negative (negsuc k) f t = refl
  negative (pos n) f t =
      let h : n < 0 = ltb-true n 0 (sym (ap (λ (z : ℤ). lt_z z (pos 0)) (to_z-of_z f)) ∙ t) in
      absurd (omega arith)

  pub natural : (z : ℤ) → SFits w z → lt_z (to_z w (of_z w z)) (pos 0) ≡ false → z ≡ pos (mag z)
  natural (pos n) f t = refl
  natural (negsuc k) f t = cc (sym (ap (λ (z : ℤ). lt_z z (pos 0)) (to_z-of_z f)) ∙ t)

  -- `!n` of a negative n
  pub flipped : (z : ℤ) → SFits w z → z ≡ negsuc (mag z) → to_z w (2 ^ bits w - 1 - of_z w z) ≡ pos (mag z)
  flipped (pos n) f e = cc
  flipped (negsuc k) f e =
      let h : k < 2 ^ hbits w = f.sfits in
      let back : 2 ^ bits w - 1 - (2 ^ bits w - suc k) ≡ k = omega (arith, within) in
      ap (to_z w) back ∙ to_z_pos w {n = k} h

  -- a number that the width holds is read back
  pub back : (z : ℤ) → mag z < 2 ^ hbits w → to_z w (of_z w z) ≡ z
  back z h = to_z-of_z (record { sfits = h })

  -- what a cast of a number that is not negative asks
  pub asks : {z : ℤ} {n : ℕ} → z ≡ pos n → n < 2 ^ hbits w → T (non_neg z) × Fits w (nat_abs z)
  asks e h = subst (λ (y : ℤ). T (non_neg y) × Fits w (nat_abs y)) (sym e) (tt, record { fits = omega (arith, within) })
