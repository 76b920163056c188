-- Zero bits: what they make of a remainder, and of a number.
-- Assumes nothing.
use mathlib.Core.Path.{◌≡◌, refl, sym, ap, ap₂, ◌∙◌}
use Prim.Native.Nat.{ℕ, zero, suc, ◌+◌, ◌*◌, ◌^◌, ◌<◌}
use mathlib.Core.List.{List, [], ◌∷◌, foldl, foldl-append}
use native.Mathlib.Omega.{arith}
use native.Mathlib.Nat.{pow-succ'}
use lib.Bits.{xor_lt}
use lib.ListN.{length, replicate, length-replicate, replicate-append-replicate}
use Rattle.numbers.specs.Bits.{◌⊕◌, AreBits}
use Rattle.numbers.proofs.Packing.{length-bits_in}
use Rattle.numbers.proofs.Xor.{⊕_zero, zero_⊕, ⊕_self, ⊕_same}
use Rattle.fcs.specs.Fcs.{step, bits, fcs}
use Rattle.fcs.specs.Flips.{flip, ones}
use Rattle.fcs.proofs.Division.{behind, step_zero, fold_lt}
use Rattle.fcs.proofs.Linearity.{fold_linear}
use Rattle.fcs.proofs.Sums.{Additive}

-- what a remainder is with k zero bits more
unfoldable pub leave : ℕ → ℕ → ℕ
leave k r = foldl step r (replicate k 0)

blank : (ws : List ℕ) → flip (replicate (length ws) 0) ws ≡ ws
unfolding flip
blank [] = refl
blank (w ∷ ws) = ap₂ (λ (x : ℕ) (xs : List ℕ). x ∷ xs) (zero_⊕ w) (blank ws)

-- dividing on from a sum: the one part over zero bits, the other over the bits themselves
pub apart : (ws : List ℕ) (r s : ℕ) → foldl step (r ⊕ s) ws ≡ leave (length ws) r ⊕ foldl step s ws
unfolding leave
apart ws r s = ap (foldl step (r ⊕ s)) (sym (blank ws)) ∙ fold_linear (replicate (length ws) 0) ws r s (length-replicate (length ws) 0)

pub leave_additive : (k : ℕ) → Additive (leave k)
unfolding leave
leave_additive k = record { adds = λ x y. apart (replicate k 0) x y ∙ ap (λ (n : ℕ). leave n x ⊕ leave k y) (length-replicate k 0) }

pub divided : (m : List ℕ) (r : ℕ) → foldl step r (bits m) ≡ leave (length m * 8) r ⊕ fcs m
unfolding fcs
divided m r =
    ap (λ (n : ℕ). foldl step n (bits m)) (sym (⊕_zero r)) ∙ apart (bits m) r 0 ∙ ap (λ (n : ℕ). leave n r ⊕ foldl step 0 (bits m)) (length-bits_in 8 m)

pub zero_bits : (k : ℕ) → AreBits (replicate k 0)
zero_bits zero = tt
zero_bits (suc k) = (omega arith, zero_bits k)

pub leave_lt : (k r : ℕ) → r < 2 ^ 16 → leave k r < 2 ^ 16
unfolding leave
leave_lt k r h = fold_lt (replicate k 0) r (zero_bits k) h

-- zero bits leave a remainder of 0 only where it was 0
pub leave_zero : (k r : ℕ) → r < 2 ^ 16 → leave k r ≡ 0 → r ≡ 0
unfolding leave
leave_zero zero r h e = e
leave_zero (suc k) r h e = step_zero r h (leave_zero k (step r 0) (leave_lt 1 r h) e)

pub leave_same : (k r s : ℕ) → r < 2 ^ 16 → s < 2 ^ 16 → leave k r ≡ leave k s → r ≡ s
leave_same k r s hr hs e =
    ⊕_same r s (leave_zero k (r ⊕ s) (unfold ◌⊕◌ in xor_lt 16 r s hr hs) ((leave_additive k).adds r s ∙ ap (λ (n : ℕ). n ⊕ leave k s) e ∙ ⊕_self (leave k s)))

pub leave_plus : (d i r : ℕ) → leave (d + i) r ≡ leave i (leave d r)
unfolding leave
leave_plus d i r = ap (foldl step r) (sym (replicate-append-replicate d i 0)) ∙ foldl-append step r (replicate d 0) (replicate i 0)

-- bits of which none is 1
pub blank_bits : (ws : List ℕ) → ones ws ≡ 0 → ws ≡ replicate (length ws) 0
unfolding ones
blank_bits [] z = refl
blank_bits (w ∷ ws) z = ap₂ (λ (x : ℕ) (xs : List ℕ). x ∷ xs) (omega arith) (blank_bits ws (omega arith))

pub shifted : (k r : ℕ) → behind r (replicate k 0) ≡ r * 2 ^ k
shifted zero r = omega arith
shifted (suc k) r = shifted k (r * 2 + 0) ∙ rw (pow-succ' 2 k) (omega arith)
