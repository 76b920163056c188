-- Numbers as text: their digits one after the other, and how many there are.
-- Assumes nothing.
use mathlib.Core.Path.{◌≡◌, refl, ap, ◌∙◌}
use mathlib.Core.Bool.{Bool, true, false}
use mathlib.Core.List.{List, [], ◌∷◌, ◌++◌}
use Prim.Native.Nat.{ℕ, zero, suc, ◌+◌, ◌*◌, ◌/◌, ◌%◌, ◌^◌, ◌≤◌, ◌<◌}
use native.Mathlib.Nat.{pow-suc, one-le-pow}
use native.Mathlib.Omega.{arith}
use lib.Dec.{ltb}
use lib.ListN.{length, set, length-append}
use lib.Seq.{sets, set_comm}
use borrow.Author.Tests.{ltb-true, ltb-false, lt-ltb, le-ltb}
use Rattle.numbers.specs.Lent.{Stored}
use Rattle.numbers.proofs.Storing.{then}
use Rattle.listing.specs.Line.{decimal_by, decimal}

-- more than enough digits are as good as enough
enough : (k j n : ℕ) → n < k → n < j → (t : Bool) → ltb n 10 ≡ t → decimal_by k n t ≡ decimal_by j n t
unfolding decimal_by
enough zero j n h g t e = absurd (omega arith)
enough (suc k) zero n h g t e = absurd (omega arith)
enough (suc k) (suc j) n h g true e = refl
enough (suc k) (suc j) n h g false e =
    let w : 10 ≤ n = ltb-false n 10 e in
    ap (λ (l : List ℕ). l ++ ((48 + n % 10) ∷ [])) (enough k j (n / 10) (omega arith) (omega arith) (ltb (n / 10) 10) refl)

pub decimal_small : (n : ℕ) → n < 10 → decimal n ≡ (48 + n) ∷ []
unfolding decimal decimal_by
decimal_small n h = rw (lt-ltb n 10 h)

large : (n : ℕ) → 10 ≤ n → decimal n ≡ decimal_by n (n / 10) (ltb (n / 10) 10) ++ ((48 + n % 10) ∷ [])
unfolding decimal decimal_by
large n h = rw (le-ltb n 10 h)

pub decimal_large : (n : ℕ) → 10 ≤ n → decimal n ≡ decimal (n / 10) ++ ((48 + n % 10) ∷ [])
unfolding decimal
decimal_large n h = large n h ∙ ap (λ (l : List ℕ). l ++ ((48 + n % 10) ∷ [])) (enough n (suc (n / 10)) (n / 10) (omega arith) (omega arith) (ltb (n / 10) 10) refl)

pub length_small : (n : ℕ) → n < 10 → length (decimal n) ≡ 1
length_small n h = ap length (decimal_small n h)

pub length_large : (n : ℕ) → 10 ≤ n → length (decimal n) ≡ length (decimal (n / 10)) + 1
length_large n h = ap length (decimal_large n h) ∙ length-append (decimal (n / 10)) ((48 + n % 10) ∷ [])

-- a number below ten to the k has at most k digits, for k at least 1
pub decimal-length : (k n : ℕ) → n < 10 ^ suc k → length (decimal n) ≤ suc k
decimal-length zero n h = omega (arith, length_small n h)
decimal-length (suc k) n h = go (λ g. decimal-length k (n / 10) g) (ltb n 10) refl
  where
    go : (n / 10 < 10 ^ suc k → length (decimal (n / 10)) ≤ suc k) → (t : Bool) → ltb n 10 ≡ t → length (decimal n) ≤ suc (suc k)
    go shorter true e = omega (arith, length_small n (ltb-true n 10 e))
    go shorter false e = omega (arith, length_large n (ltb-false n 10 e), shorter (omega (arith, pow-suc 10 (suc k))))

pub length_some : (n : ℕ) → 1 ≤ length (decimal n)
length_some n = go (ltb n 10) refl
  where
    go : (t : Bool) → ltb n 10 ≡ t → 1 ≤ length (decimal n)
    go true e = omega (arith, length_small n (ltb-true n 10 e))
    go false e = omega (arith, length_large n (ltb-false n 10 e))

-- a number from ten to the k on, and below the next power, has k + 1 digits
pub length_of : (k n : ℕ) → 10 ^ k ≤ n → n < 10 * 10 ^ k → length (decimal n) ≡ k + 1
length_of zero n low high = length_small n (omega arith)
length_of (suc k) n low high =
    let p = pow-suc 10 k in
    let some = one-le-pow k 10 (omega arith) in
    omega (arith, length_large n (omega arith), length_of k (n / 10) (omega arith) (omega arith))

-- one byte stored
pub one : (out : List ℕ) (at x : ℕ) → Stored out at (x ∷ []) (at + 1) (set out at x)
one out at x = record { ends = refl; leaves = refl }

-- a byte behind some others may be stored before them
sets-set : (xs out : List ℕ) (at i x : ℕ) → at + length xs ≤ i → sets (set out i x) at xs ≡ set (sets out at xs) i x
sets-set [] out at i x h = refl
sets-set (y ∷ xs) out at i x h =
    ap (λ (l : List ℕ). sets l (suc at) xs) (set_comm out i at x y (λ e. omega arith)) ∙ sets-set xs (set out at y) (suc at) i x (omega arith)

-- so the last digit may be
pub last_first : (out : List ℕ) (at n p : ℕ) → 10 ≤ n → p + 1 ≡ at + length (decimal n) → sets (set out p (48 + n % 10)) at (decimal (n / 10)) ≡ sets out at (decimal n)
last_first out at n p h e =
    let xs = decimal (n / 10) in
    let place : p ≡ at + length xs = omega (arith, length_large n h) in
    rw (place, decimal_large n h)
    (sets-set xs out at (at + length xs) (48 + n % 10) (omega arith)
    ∙ (then {out = out} {xs = xs} {at = at} (record { ends = refl; leaves = refl }) (one (sets out at xs) (at + length xs) (48 + n % 10))).leaves)
