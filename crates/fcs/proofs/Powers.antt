-- The powers of x by the generator: from the 0th to the 32,766th no two are the same.
-- Assumes nothing.
use mathlib.Core.Path.{◌≡◌, refl, sym, ap, ap₂, ◌∙◌}
use mathlib.Core.Bool.{Bool, true, false, cond}
use Prim.Native.Nat.{ℕ, zero, suc, ◌+◌, ◌-◌, ◌*◌, ◌/◌, ◌%◌, ◌^◌, ◌≤◌, ◌<◌}
use native.Mathlib.Omega.{arith}
use lib.Bits.{bit_and, xor_add_and, and_high}
use lib.Dec.{eqb, ltb}
use lib.Pow.{pow-add}
use borrow.Author.Tests.{eqb-false, ltb-true, ltb-false}
use Rattle.numbers.specs.Bits.{◌⊕◌, bit}
use Rattle.numbers.proofs.Xor.{⊕_zero, ⊕_assoc}
use Rattle.fcs.specs.Fcs.{generator, step}
use Rattle.fcs.specs.Claims.{OrderOfX}
use Rattle.fcs.proofs.Division.{step_small}
use Rattle.fcs.proofs.Zeros.{leave, leave_lt, leave_same, leave_plus}

-- n with bit k flipped, by numbers alone, which antt computes faster
flip_at : ℕ → ℕ → ℕ
flip_at k n = n + 2 ^ k - n / 2 ^ k % 2 * 2 ^ k * 2

flip-at : (k n : ℕ) → flip_at k n ≡ n ⊕ 2 ^ k
unfolding flip_at ◌⊕◌
flip-at k n =
    let one : 2 ^ (1 + k) - 2 ^ k ≡ 2 ^ k = omega (arith, pow-add 2 1 k) in
    let held : bit_and n (2 ^ k) ≡ n / 2 ^ k % 2 * 2 ^ k = ap (bit_and n) (sym one) ∙ and_high n 1 k in
    omega (arith, xor_add_and n (2 ^ k), held)

high_bit : (r : ℕ) → r < 2 ^ 16 → 32768 ≤ r → bit 15 r ≡ 1
unfolding bit
high_bit r h l = omega arith

-- less the generator
taken_off : ℕ → ℕ
taken_off n = flip_at 0 (flip_at 5 (flip_at 12 (flip_at 16 n)))

taken_off_lem : (n : ℕ) → taken_off n ≡ n ⊕ generator
unfolding taken_off
taken_off_lem n =
    let terms : 2 ^ 16 ⊕ (2 ^ 12 ⊕ (2 ^ 5 ⊕ 2 ^ 0)) ≡ generator = unfold ◌⊕◌ in refl in
    rw (flip-at 0 _, flip-at 5 _, flip-at 12 _, flip-at 16 n) (⊕_assoc _ _ _ ∙ ⊕_assoc _ _ _ ∙ ⊕_assoc _ _ _ ∙ ap (λ (g : ℕ). n ⊕ g) terms)

-- one zero bit more
next : ℕ → ℕ
next r = cond (ltb r 32768) (r * 2) (taken_off (r * 2))

next_step : (r : ℕ) → r < 2 ^ 16 → step r 0 ≡ next r
unfolding next step
next_step r h = go (ltb r 32768) refl
  where
    go : (t : Bool) → ltb r 32768 ≡ t → step r 0 ≡ cond t (r * 2) (taken_off (r * 2))
    go true e = step_small r 0 (ltb-true r 32768 e) (omega arith) ∙ omega arith
    go false e = ap₂ (λ (n t : ℕ). n ⊕ t * generator) (⊕_zero (r * 2)) (high_bit r h (ltb-false r 32768 e)) ∙ sym (taken_off_lem (r * 2))

-- n zero bits more, and 0 where the remainder was 1 before
orbit : ℕ → ℕ → ℕ
orbit zero r = r
orbit (suc n) r = cond (eqb r 1) 0 (orbit n (next r))

around : orbit 32766 2 ≡ 1
unfolding orbit next taken_off flip_at
around = refl

-- an orbit that ends at 1 does not begin there, and goes on from the next remainder
further : (n r : ℕ) → orbit (suc n) r ≡ 1 → (r ≡ 1 → ⊥) × (orbit n (next r) ≡ 1)
unfolding orbit
further n r e = go (eqb r 1) refl
  where
    go : (t : Bool) → eqb r 1 ≡ t → (r ≡ 1 → ⊥) × (orbit n (next r) ≡ 1)
    go true f = let never : zero ≡ suc zero = rw f at e in absurd (omega arith)
    go false f = (eqb-false r 1 f, rw f at e)

moved : (n r : ℕ) → r < 2 ^ 16 → orbit (suc n) r ≡ 1 → orbit n (step r 0) ≡ 1
moved n r h o = ap (orbit n) (next_step r h) ∙ (further n r o).1

-- so it is 1 with n zero bits more,
closes : (n r : ℕ) → r < 2 ^ 16 → orbit n r ≡ 1 → leave n r ≡ 1
unfolding orbit leave
closes zero r h o = o
closes (suc n) r h o = closes n (step r 0) (leave_lt 1 r h) (moved n r h o)

-- and not with fewer
open_before : (n k r : ℕ) → r < 2 ^ 16 → orbit n r ≡ 1 → k < n → leave k r ≡ 1 → ⊥
unfolding leave
open_before zero k r h o l e = omega arith
open_before (suc n) zero r h o l e = (further n r o).0 e
open_before (suc n) (suc k) r h o l e = open_before n k (step r 0) (leave_lt 1 r h) (moved n r h o) (omega arith) e

not_one : (k : ℕ) → 1 ≤ k → k < 32767 → leave k 1 ≡ 1 → ⊥
unfolding leave step bit ◌⊕◌
not_one zero some l e = omega arith
not_one (suc k) some l e = open_before 32766 k 2 (omega arith) around (omega arith) e

pub order : OrderOfX
unfolding leave step bit ◌⊕◌
order = (closes 32766 2 (omega arith) around, not_one)

later : (i j : ℕ) → j < 32767 → leave i 1 ≡ leave j 1 → i < j → ⊥
later i j h e l =
    let d = j - i in
    let there : d + i ≡ j = omega arith in
    not_one d (omega arith) (omega arith)
    (leave_same i (leave d 1) 1 (leave_lt d 1 (omega arith)) (omega arith) (sym (leave_plus d i 1) ∙ ap (λ (k : ℕ). leave k 1) there ∙ sym e))

pub powers : (i j : ℕ) → i < 32767 → j < 32767 → leave i 1 ≡ leave j 1 → i ≡ j
powers i j hi hj e = go (ltb i j) (ltb j i) refl refl
  where
    go : (p q : Bool) → ltb i j ≡ p → ltb j i ≡ q → i ≡ j
    go true q f g = absurd (later i j hj e (ltb-true i j f))
    go false true f g = absurd (later j i hi (sym e) (ltb-true j i g))
    go false false f g = omega (arith, ltb-false i j f, ltb-false j i g)
