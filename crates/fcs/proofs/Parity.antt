-- x+1 divides the generator: a message and its check sequence both have an odd number of ones, or both an even one.
-- Assumes nothing.
use mathlib.Core.Path.{◌≡◌, refl, sym, ap, ap₂, ◌∙◌}
use Prim.Native.Nat.{ℕ, zero, suc, ◌+◌, ◌*◌, ◌%◌, ◌^◌, ◌<◌}
use mathlib.Core.List.{List, [], ◌∷◌, ◌++◌, foldl}
use native.Mathlib.Omega.{arith}
use Rattle.numbers.specs.Bits.{◌⊕◌, bit, AreBits}
use Rattle.numbers.specs.Packing.{bits_of}
use Rattle.numbers.proofs.Every.{every}
use Rattle.numbers.proofs.Packing.{bits_in_lem}
use Rattle.numbers.proofs.Xor.{bit_ind, bit_lt, ⊕_bit, ⊕_assoc, ⊕_zero}
use Rattle.fcs.specs.Fcs.{step, bits, fcs}
use Rattle.fcs.specs.Flips.{ones}
use Rattle.fcs.specs.Claims.{Parity}
use Rattle.fcs.proofs.Division.{fold_lt}
use Rattle.fcs.proofs.Zeros.{leave, apart, leave_additive}
use Rattle.fcs.proofs.Rows.{ones_behind, ones_sequence}
use Rattle.fcs.proofs.Sums.{Additive, plus, after, agree}

-- the sum of the k low bits
sum : ℕ → ℕ → ℕ
sum zero n = 0
sum (suc k) n = bit k n ⊕ sum k n

bit_additive : (k : ℕ) → Additive (bit k)
bit_additive k = record { adds = ⊕_bit k }

sum_additive : (k : ℕ) → Additive (sum k)
unfolding sum ◌⊕◌
sum_additive zero = record { adds = λ x y. refl }
sum_additive (suc k) = plus (bit_additive k) (sum_additive k)

add : (b n : ℕ) → b < 2 → b ⊕ n % 2 ≡ (b + n) % 2
unfolding ◌⊕◌
add b n h =
    bit_ind (λ (b : ℕ). b ⊕ n % 2 ≡ (b + n) % 2) (omega arith)
    (bit_ind (λ (t : ℕ). n % 2 ≡ t → 1 ⊕ t ≡ (1 + n) % 2) (λ e. omega arith) (λ e. omega arith) (n % 2) (omega arith) refl) b h

sum_ones : (k n : ℕ) → sum k n ≡ ones (bits_of k n) % 2
unfolding sum ones bits_of
sum_ones zero n = refl
sum_ones (suc k) n = ap (λ (s : ℕ). bit k n ⊕ s) (sum_ones k n) ∙ add (bit k n) (ones (bits_of k n)) (bit_lt k n)

-- the generator has an even number of terms, so taking it off changes no sum
kept : (r : ℕ) → r < 2 ^ 16 → sum 16 (leave 1 r) ≡ sum 16 r
unfolding sum leave every bit step ◌⊕◌
kept = agree (after (sum_additive 16) (leave_additive 1)) (sum_additive 16) 16 refl

one_bit : (w : ℕ) → w < 2 → sum 16 (step 0 w) ≡ w
unfolding sum bit step ◌⊕◌
one_bit = bit_ind (λ (w : ℕ). sum 16 (step 0 w) ≡ w) refl refl

sum_step : (r w : ℕ) → r < 2 ^ 16 → w < 2 → sum 16 (step r w) ≡ sum 16 r ⊕ w
sum_step r w hr hw =
    ap (sum 16) (ap (λ (n : ℕ). step n w) (sym (⊕_zero r)) ∙ apart (w ∷ []) r 0)
    ∙ (sum_additive 16).adds (leave 1 r) (step 0 w)
    ∙ ap₂ (λ (x y : ℕ). x ⊕ y) (kept r hr) (one_bit w hw)

sum_fold : (ws : List ℕ) (r : ℕ) → AreBits ws → r < 2 ^ 16 → sum 16 (foldl step r ws) ≡ sum 16 r ⊕ ones ws % 2
unfolding ones
sum_fold [] r hs h = sym (⊕_zero _)
sum_fold (w ∷ ws) r hs h =
    sum_fold ws (step r w) hs.1 (fold_lt (w ∷ []) r (hs.0, tt) h)
    ∙ ap (λ (n : ℕ). n ⊕ ones ws % 2) (sum_step r w h hs.0)
    ∙ ⊕_assoc _ _ _
    ∙ ap (λ (n : ℕ). sum 16 r ⊕ n) (add w (ones ws) hs.0)

pub parity : Parity
unfolding fcs sum bit ◌⊕◌
parity m = sym (sum_ones 16 (fcs m)) ∙ sum_fold (bits m) 0 (bits_in_lem 8 m) (omega arith)

-- flips of message and sequence that agree are even in number
pub even : (flips : List ℕ) (low high : ℕ) → low < 256 → fcs flips ≡ 256 * high + low → ones (bits (flips ++ low ∷ high ∷ [])) % 2 ≡ 0
even flips low high h e =
    let same : ones (bits flips) % 2 ≡ ones (bits (low ∷ high ∷ [])) % 2 = sym (parity flips) ∙ ap (λ (n : ℕ). ones (bits_of 16 n) % 2) e ∙ ap (λ (n : ℕ). n % 2) (ones_sequence low high h) in
    omega (arith, ones_behind flips (low ∷ high ∷ []))
