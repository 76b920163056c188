-- Functions that take a sum of polynomials to the sum: two of them that agree at each power of x are the same.
-- Assumes nothing.
use mathlib.Core.Path.{◌≡◌, refl, sym, ap, ap₂, ◌∙◌, subst}
use mathlib.Core.Bool.{true}
use Prim.Native.Nat.{ℕ, zero, suc, ◌*◌, ◌/◌, ◌%◌, ◌^◌, ◌<◌}
use native.Mathlib.Omega.{arith}
use native.Mathlib.Nat.{add-zero, zero-mul, one-mul, mod-lt}
use native.Mathlib.Numerals.{one-add}
use lib.Bits.{bit_xor, xor_shr, xor_mod, xor_block, xor_shifted}
use lib.Dec.{eqb}
use lib.Pow.{pow_pos, shr_lt, split}
use borrow.Author.Tests.{eqb-true}
use Rattle.numbers.specs.Bits.{◌⊕◌}
use Rattle.numbers.proofs.Every.{every, at}
use Rattle.numbers.proofs.Xor.{bit_ind, ⊕_self, zero_⊕, ⊕-laws}

pub record Additive (f : ℕ → ℕ) : Type 0 where
  pub adds : (x y : ℕ) → f (x ⊕ y) ≡ f x ⊕ f y

pub same : Additive (λ r. r)
same = record { adds = λ x y. refl }

pub shr : (k : ℕ) → Additive (λ r. r / 2 ^ k)
unfolding ◌⊕◌
shr k = record { adds = λ x y. xor_shr x y k }

pub low : (k : ℕ) → Additive (λ r. r % 2 ^ k)
unfolding ◌⊕◌
low k = record { adds = λ x y. xor_mod x y k }

pub shl : (k : ℕ) → Additive (λ r. r * 2 ^ k)
unfolding ◌⊕◌
shl k = record { adds = λ x y. sym (add-zero _) ∙ sym (xor_block k x y 0 0 (pow_pos k) (pow_pos k)) ∙ ap₂ bit_xor (add-zero (x * 2 ^ k)) (add-zero (y * 2 ^ k)) }

whole : (r n : ℕ) → r / 2 ^ n * 2 ^ n ⊕ r % 2 ^ n ≡ r
unfolding ◌⊕◌
whole r n = xor_shifted (r / 2 ^ n) n (r % 2 ^ n) (mod-lt r (pow_pos n)) ∙ split r n

at_zero : {f : ℕ → ℕ} → Additive f → f 0 ≡ 0
unfolding ◌⊕◌
at_zero {f} l = l.adds 0 0 ∙ ⊕_self (f 0)

module _ {f g : ℕ → ℕ} (l : Additive f) (k : Additive g) where
  pub plus : Additive (λ r. f r ⊕ g r)
  plus = record { adds = λ x y. ap₂ (λ (m n : ℕ). m ⊕ n) (l.adds x y) (k.adds x y) ∙ simp ⊕-laws }

  pub after : Additive (λ r. f (g r))
  after = record { adds = λ x y. ap f (k.adds x y) ∙ l.adds (g x) (g y) }

  -- by the highest term
  below : (n : ℕ) → ((i : ℕ) → i < n → f (2 ^ i) ≡ g (2 ^ i)) → (r : ℕ) → r < 2 ^ n → f r ≡ g r
  below zero h r s = let e : r ≡ 0 = omega arith in ap f e ∙ at_zero l ∙ sym (at_zero k) ∙ ap g (sym e)
  below (suc n) h r s =
      let part = r % 2 ^ n in
      let rest : f part ≡ g part = below n (λ i j. h i (omega arith)) part (mod-lt r (pow_pos n)) in
      bit_ind (λ (t : ℕ). t * 2 ^ n ⊕ part ≡ r → f r ≡ g r)
      (λ e. let e0 : part ≡ r = sym (zero_⊕ part) ∙ ap (λ (m : ℕ). m ⊕ part) (sym (zero-mul (2 ^ n))) ∙ e in ap f (sym e0) ∙ rest ∙ ap g e0)
      (λ e. let e1 : 2 ^ n ⊕ part ≡ r = ap (λ (m : ℕ). m ⊕ part) (sym (one-mul (2 ^ n))) ∙ e in
      ap f (sym e1) ∙ l.adds (2 ^ n) part ∙ ap₂ (λ (x y : ℕ). x ⊕ y) (h n (omega arith)) rest ∙ sym (k.adds (2 ^ n) part) ∙ ap g e1)
      (r / 2 ^ n) (shr_lt 1 n (subst (λ (m : ℕ). r < 2 ^ m) (sym (one-add n)) s)) (whole r n)

  -- from a test that antt computes at each power below the n-th
  pub agree : (n : ℕ) → every (λ i. eqb (f (2 ^ i)) (g (2 ^ i))) n ≡ true → (r : ℕ) → r < 2 ^ n → f r ≡ g r
  agree n t = below n (λ i h. eqb-true _ _ (at (λ i. eqb (f (2 ^ i)) (g (2 ^ i))) n t i h))
