-- Flips within 16 bits in a row, over the border from the message to its check sequence.
-- Assumes nothing.
use mathlib.Core.Path.{◌≡◌, refl, sym, ap, ◌∙◌, subst}
use mathlib.Core.Bool.{Bool, true, false, cond}
use Prim.Native.Nat.{ℕ, suc, ◌+◌, ◌-◌, ◌*◌, ◌/◌, ◌%◌, ◌^◌, ◌≤◌, ◌<◌}
use mathlib.Core.List.{List, [], ◌∷◌, ◌++◌, foldl, foldl-append}
use native.Mathlib.Omega.{arith}
use lib.Dec.{eqb, ltb}
use lib.ListN.{length, take, drop}
use lib.Pow.{pow_mono, shl_lt, shl-shr}
use borrow.Author.Tests.{eq-eqb, eqb-true, eqb-false, ltb-true, ltb-false}
use Rattle.numbers.proofs.Every.{every, at}
use Rattle.numbers.proofs.Packing.{bits_in_lem, bits_in-append}
use Rattle.fcs.specs.Fcs.{step, bits, fcs}
use Rattle.fcs.specs.Flips.{ones}
use Rattle.fcs.specs.Claims.{OverTheBorder}
use Rattle.fcs.proofs.Division.{behind, grows}
use Rattle.fcs.proofs.Bursting.{late}
use Rattle.fcs.proofs.Rows.{Shifted, row, split_zeros, no_rest}
use Rattle.fcs.proofs.Shortest.{number_two, itself, two}
use Rattle.fcs.proofs.Zeros.{blank_bits, shifted}

-- message and sequence as one number
one_number : (flips : List ℕ) (low high : ℕ) → low < 256 → high < 256
    → behind 0 (bits (flips ++ low ∷ high ∷ [])) ≡ behind 0 (bits flips) * 65536 + 256 * low + high
one_number flips low high hl hh =
    ap (behind 0) (bits_in-append 8 flips (low ∷ high ∷ [])) ∙ foldl-append _ 0 (bits flips) (bits (low ∷ high ∷ [])) ∙ number_two low high (behind 0 (bits flips)) ∙ omega arith

-- the flips b of the message's last byte and of the low byte: 8 bits in a row do not hold them
spread : ℕ → ℕ → Bool
spread b k = ltb 255 (cond (eqb (b * 65792 / 2 ^ k * 2 ^ k) (b * 65792)) (b * 65792 / 2 ^ k) 256)

all_spread : every (λ b. every (spread (suc b)) 16) 255 ≡ true
unfolding every spread
all_spread = refl

spread_out : (b k u : ℕ) → b < 255 → k < 16 → suc b * 65792 ≡ u * 2 ^ k → 255 < u
unfolding spread
spread_out b k u hb hk z =
    let q : suc b * 65792 / 2 ^ k ≡ u = ap (λ (m : ℕ). m / 2 ^ k) z ∙ shl-shr u k in
    ltb-true 255 u (rw (q, eq-eqb (u * 2 ^ k) (suc b * 65792) (sym z)) at (at (spread (suc b)) 16 (at (λ b. every (spread (suc b)) 16) 255 all_spread b hb) k hk))

module _ (v low high n : ℕ) (hl : low < 256) (hh : high < 256) (hn : n ≤ 16) (some : 1 ≤ v) (also : 1 ≤ 256 * high + low) (s : Shifted n (v * 65536 + 256 * low + high)) where
  near : s.places < 16
  near = go (ltb s.places 16) refl
    where
      go : (t : Bool) → ltb s.places 16 ≡ t → s.places < 16
      go true e = ltb-true s.places 16 e
      go false e = absurd (omega (arith, s.is ∙ split_zeros s.part s.places 16 (ltb-false s.places 16 e)))

  below : (k : ℕ) → n + s.places ≤ k → v * 65536 < 2 ^ k
  below k h = omega (arith, s.is, shl_lt n s.places s.small, pow_mono h)

  high_zero : v ≡ 256 * high + low → high ≡ 0
  high_zero e = go (ltb s.places 8) refl
    where
      go : (t : Bool) → ltb s.places 8 ≡ t → high ≡ 0
      go true f = omega (arith, below 23 (omega (arith, ltb-true s.places 8 f)))
      go false f =
          let m = v * 256 + low in
          let z : m * 256 + high ≡ s.part * 2 ^ (s.places - 8) * 256 = omega (arith, s.is ∙ split_zeros s.part s.places 8 (ltb-false s.places 8 f)) in
          no_rest m (s.part * 2 ^ (s.places - 8)) high hh z

  wide : v ≡ 256 * high + low → 9 ≤ n
  wide e = go (ltb n 9) refl
    where
      go : (t : Bool) → ltb n 9 ≡ t → 9 ≤ n
      go false f = ltb-false n 9 f
      go true f =
          let n≤8 : n ≤ 8 = omega (arith, ltb-true n 9 f) in
          let z : low * 65792 ≡ s.part * 2 ^ s.places = omega (arith, high_zero e) ∙ s.is in
          let there : suc (low - 1) ≡ low = omega (arith, high_zero e) in
          let part : 255 < s.part = spread_out (low - 1) s.places s.part (omega arith) near (ap (λ (b : ℕ). b * 65792) there ∙ z) in
          absurd (omega (arith, s.small, pow_mono n≤8))

  border : (v < 2 ^ 16) × (v ≡ 256 * high + low → (high ≡ 0) × (9 ≤ n))
  border = (omega (arith, below 31 (omega (arith, near))), λ e. (high_zero e, wide e))

pub over_the_border : OverTheBorder
over_the_border flips low high n i hl hh hn all some also =
    let v = behind 0 (bits flips) in
    let both = flips ++ low ∷ high ∷ [] in
    let s : Shifted n (v * 65536 + 256 * low + high) = subst (Shifted n) (one_number flips low high hl hh) (row n i (bits both) (bits_in_lem 8 both) all) in
    let b = border v low high n hl hh hn (omega (arith, grows (bits flips) 0)) also s in
    (itself flips v refl b.0, b.1)

-- flips within 8 bits in a row, wherever in message and sequence, never agree
pub within_8 : (flips : List ℕ) (low high i : ℕ) → low < 256 → high < 256
    → ones (take 8 (drop i (bits (flips ++ low ∷ high ∷ [])))) ≡ ones (bits (flips ++ low ∷ high ∷ []))
    → 1 ≤ ones (bits (flips ++ low ∷ high ∷ [])) → fcs flips ≡ 256 * high + low → ⊥
unfolding fcs
within_8 flips low high i hl hh all some e = go (eqb (256 * high + low) 0) (eqb (ones (bits flips)) 0) refl refl
  where
    go : (p q : Bool) → eqb (256 * high + low) 0 ≡ p → eqb (ones (bits flips)) 0 ≡ q → ⊥
    go true q f g =
        let s0 : 256 * high + low ≡ 0 = eqb-true (256 * high + low) 0 f in
        let zero : 256 * (low % 256) + high % 256 ≡ 0 = omega arith in
        let both = bits (flips ++ low ∷ high ∷ []) in
        let divided : foldl step 0 both ≡ 0
        = ap (foldl step 0) (bits_in-append 8 flips (low ∷ high ∷ [])) ∙ foldl-append step 0 (bits flips) (bits (low ∷ high ∷ [])) ∙ ap (λ (r : ℕ). foldl step r (bits (low ∷ high ∷ []))) (e ∙ s0) ∙ two low high ∙ zero in
        omega (arith, late 8 i both (omega arith) (bits_in_lem 8 (flips ++ low ∷ high ∷ [])) all divided)
    go false true f g =
        let none : behind 0 (bits flips) ≡ 0 = ap (behind 0) (blank_bits (bits flips) (eqb-true _ 0 g)) ∙ shifted (length (bits flips)) 0 ∙ omega arith in
        eqb-false (256 * high + low) 0 f (sym e ∙ itself flips 0 none (omega arith))
    go false false f g =
        let b = over_the_border flips low high 8 i hl hh (omega arith) all (omega (arith, eqb-false (ones (bits flips)) 0 g)) (omega (arith, eqb-false (256 * high + low) 0 f)) in
        omega (arith, (b.1 (sym b.0 ∙ e)).1)
