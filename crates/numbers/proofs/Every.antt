-- What tests show: two at once, two that agree, one that chooses, and one that antt computes at each number below n.
-- Assumes nothing.
use mathlib.Core.Path.{◌≡◌, refl, sym}
use mathlib.Core.Bool.{Bool, true, false, cond, ◌&&◌}
use Prim.Native.Nat.{ℕ, zero, suc, ◌<◌}
use native.Mathlib.Omega.{arith}
use native.Mathlib.Nat.{not-suc-le-zero}
use lib.Dec.{eqb}
use borrow.Author.Tests.{eqb-true}

pub both : (a b : Bool) → a && b ≡ true → (a ≡ true) × (b ≡ true)
both true b e = (refl, e)
both false b e = ((cc), (cc))

-- two tests, each true where the other is
pub same_test : (a b : Bool) → (a ≡ true → b ≡ true) → (b ≡ true → a ≡ true) → a ≡ b
same_test true b f g = sym (f refl)
same_test false true f g = g refl
same_test false false f g = refl

pub also_false : (b : Bool) → b && false ≡ false
also_false true = refl
also_false false = refl

-- what holds of a where n is k, and of b, holds of the one that the test chooses
pub chosen : {X : Type 0} (P : X → Type 0) (n k : ℕ) (a b : X) → (n ≡ k → P a) → P b → P (cond (eqb n k) a b)
chosen P n k a b y z = go (eqb n k) refl
  where
    go : (t : Bool) → eqb n k ≡ t → P (cond t a b)
    go true e = y (eqb-true n k e)
    go false e = z

unfoldable pub every : (ℕ → Bool) → ℕ → Bool
every f zero = true
every f (suc n) = f 0 && every (λ k. f (suc k)) n

pub at : (f : ℕ → Bool) (n : ℕ) → every f n ≡ true → (k : ℕ) → k < n → f k ≡ true
unfolding every
at f zero t k h = absurd (not-suc-le-zero h)
at f (suc n) t zero h = (both (f 0) _ t).0
at f (suc n) t (suc k) h = at (λ i. f (suc i)) n (both (f 0) _ t).1 k (omega arith)
