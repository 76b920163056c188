-- Steps as degrees lose nothing: the product by 180 has at most 31 binary digits, and the quotient by 2 ^ 23 only moves the exponent.
-- Assumes nothing.
use mathlib.Core.Path.{◌≡◌, refl, sym, ap, ◌∙◌, subst}
use mathlib.Core.Bool.{Bool, true, false, cond, not}
use Prim.Native.Nat.{ℕ, zero, suc, ◌+◌, ◌-◌, ◌*◌, ◌/◌, ◌%◌, ◌^◌, ◌≤◌, ◌<◌}
use native.Mathlib.Nat.{mul_assoc, mul_comm, mul_left_comm, mul_right_comm, mul-one, eq_of_mul-eq-mul_right, lt_of_le_of_lt, lt_of_lt_of_le, lt_trans, le_of_lt, mul-pos, le_of_suc-le-suc}
use native.Mathlib.Omega.{arith}
use lib.Arith.{lt_of_le-ne}
use borrow.Author.Tests.{ne_eqb, eqb-false, leb-false, ltb-true}
use lib.Dec.{leb, ltb, eqb, lit<, lit≤}
use lib.Pow.{pow-add, shl_lt, pow_mono}
use lib.IntN.{ℤ, pos, negsuc, nat_abs}
use lib.Signed.{mag, non_neg}
use lib.Ieee.{Float, nan, inf, fin, binary64, emax, low, up, down, unlike, round, odd, mul, div, of_int, of_bits, of_fields, to_bits}
use lib.Ieee.Fits.{down_pos, div-fits}
use lib.Ieee.Exact.{HasValue, round_exact, odd_sign}
use lib.Ieee.Back.{round_whole}
use lib.Ieee.Bits.{of_bits-to_bits}
use Rattle.std.specs.Prelude.{Ok, Err}
use Rattle.refusals.specs.declared.Refusal.TheVariants.{BadField}
use Rattle.units.specs.Degrees.{degrees, in_degrees, Exactly, ExactlyAt}
use Rattle.units.specs.Claims.{ExactDegrees}

-- from one fraction to another of the same size
rescale : (x : Float) (s : Bool) (w l num den : ℕ) → 0 < l → num * l ≡ w * den → HasValue x s w l → HasValue x s num den
rescale nan s w l num den p h v = v
rescale (inf t) s w l num den p h v = v
rescale (fin t m e) s w l num den p h v = (
  v.0,
  eq_of_mul-eq-mul_right l p (m * up e * den) (num * down e)
      (mul_right_comm (m * up e) den l
      ∙ ap (λ (x : ℕ). x * den) v.1
      ∙ mul_right_comm w (down e) den
      ∙ ap (λ (x : ℕ). x * down e) (sym h)
      ∙ mul_right_comm num l (down e)),
)

same_sign : (s : Bool) → unlike s false ≡ s
same_sign true = refl
same_sign false = refl

-- q of at most 31 digits, at any power of two from 2 ^ -1074 to 2 ^ 0, is below the largest values
fine : (q j : ℕ) → q < 2 ^ 31 → j ≤ 1074 → q * 2 ^ j < 2 ^ (low binary64 + suc (emax binary64))
fine q j h k = lt_of_lt_of_le (shl_lt 31 j h) (pow_mono {i = 31 + j} {j = 2098} (omega arith))

-- a = n d, as the factors are moved
moved : (a n d L : ℕ) → a * 1 ≡ n * d → a * 180 * L ≡ 180 * n * L * (d * 1)
moved a n d L h =
    let e : a ≡ n * d = sym (mul-one a) ∙ h in
    ap (λ (x : ℕ). x * 180 * L) e ∙ simp (mul-one, mul_assoc, mul_comm, mul_left_comm)

by180 : (x : Float) (s : Bool) (n : ℕ) → n ≤ 8388608 → HasValue x s n 1 → HasValue (mul binary64 x (fin false 45 (pos 2))) s (180 * n) 1
unfolding mul
by180 nan s n b v = absurd v
by180 (inf t) s n b v = absurd v
by180 (fin t m e) s n b v =
    let a = m * up e in
    let d = down e in
    let u : unlike t false ≡ s = same_sign t ∙ v.0 in
    let ok : HasValue (round binary64 s (a * 180) (d * 1)) s (a * 180) (d * 1) =
    round_exact binary64 s (a * 180) (d * 1) (180 * n) 1074 (mul-pos (down_pos e) (lit< tt)) (omega arith) (fine (180 * n) 1074 (omega arith) (lit≤ tt)) (moved a n d (2 ^ 1074) v.1) in
    subst (λ (z : Bool). HasValue (round binary64 z (a * 180) (d * 1)) s (180 * n) 1) (sym u)
    (rescale (round binary64 s (a * 180) (d * 1)) s (a * 180) (d * 1) (180 * n) 1 (mul-pos (down_pos e) (lit< tt)) (again a n d v.1) ok)
  where
    again : (a n d : ℕ) → a * 1 ≡ n * d → 180 * n * (d * 1) ≡ a * 180 * 1
    again a n d h =
        let e : a ≡ n * d = sym (mul-one a) ∙ h in
        sym (ap (λ (x : ℕ). x * 180 * 1) e ∙ simp (mul-one, mul_assoc, mul_comm, mul_left_comm))

-- N = 180 n over 2 ^ 23: the same digits, 23 places lower
over : (x : Float) (s : Bool) (N : ℕ) → N < 2 ^ 31 → HasValue x s N 1 → HasValue (div binary64 x (fin false 1 (pos 23))) s N (2 ^ 23)
unfolding div
over nan s N b v = absurd v
over (inf t) s N b v = absurd v
over (fin t m e) s N b v =
    let a = m * up e in
    let d = down e in
    let u : unlike t false ≡ s = same_sign t ∙ v.0 in
    let p : 0 < 8388608 * d = mul-pos (lit< tt) (down_pos e) in
    let ok : HasValue (round binary64 s (a * 1) (8388608 * d)) s (a * 1) (8388608 * d) =
    round_exact binary64 s (a * 1) (8388608 * d) N 1051 p (lt_trans b (lit< tt)) (fine N 1051 b (lit≤ tt))
    (lower a N d (2 ^ 1051) 8388608 v.1) in
    subst (λ (z : Bool). HasValue (round binary64 z (a * 1) (8388608 * d)) s N 8388608) (sym u)
    (rescale (round binary64 s (a * 1) (8388608 * d)) s (a * 1) (8388608 * d) N 8388608 p (again a N d 8388608 v.1) ok)
  where
    lower : (a N d L K : ℕ) → a * 1 ≡ N * d → a * 1 * (L * K) ≡ N * L * (K * d)
    lower a N d L K h = ap (λ (x : ℕ). x * (L * K)) h ∙ simp (mul_assoc, mul_comm, mul_left_comm)

    again : (a N d K : ℕ) → a * 1 ≡ N * d → N * (K * d) ≡ a * 1 * K
    again a N d K h = sym (ap (λ (x : ℕ). x * K) h ∙ simp (mul_assoc, mul_comm, mul_left_comm))

-- one float has one value
crossed : (x : Float) (s s' : Bool) (a c b d : ℕ) → HasValue x s a c → HasValue x s' b d → (s ≡ s') × (a * d ≡ b * c)
crossed nan s s' a c b d v w = absurd v
crossed (inf t) s s' a c b d v w = absurd v
crossed (fin t m e) s s' a c b d v w = (sym v.0 ∙ w.0, eq_of_mul-eq-mul_right (down e) (down_pos e) (a * d) (b * c) (lift (m * up e) (down e) a b c d v.1 w.1))
  where
    lift : (M D a b c d : ℕ) → M * c ≡ a * D → M * d ≡ b * D → a * d * D ≡ b * c * D
    lift M D a b c d p q =
        mul_right_comm a d D ∙ ap (λ (x : ℕ). x * d) (sym p) ∙ mul_right_comm M c d ∙ ap (λ (x : ℕ). x * c) q ∙ mul_right_comm b D c

-- the bits of a float of that value
Read : Bool → Bool → ℕ → ℕ → ℕ → Type 0
Read s' s x t N = (s' ≡ s) × (x < 2047) × (cond (eqb x 0) t (4503599627370496 + t) * 2 ^ (x - 1 + 23) ≡ N * 2 ^ 1074)

fields : (s' s : Bool) (x t N : ℕ) → x < 2048 → HasValue (of_fields binary64 s' x t) s N 8388608 → Read s' s x t N
unfolding of_fields Read
fields s' s zero t N b v =
    let w = crossed (odd 53 s' t 0 1074) s' s (t * 1) (2 ^ 1074) N 8388608 (odd_sign 53 s' t 0 1074) v in
    (w.0, lit< tt, ap (λ (z : ℕ). z * 8388608) (sym (mul-one t)) ∙ w.1)
fields s' s (suc x) t N b v = go (eqb (suc x) 2047) refl v
  where
    none : (c : Bool) → HasValue (cond c (inf s') nan) s N 8388608 → ⊥
    none true v = v
    none false v = v

    raised : suc x - 1 + 23 ≡ x + 23
    raised = omega arith

    not_zero : eqb (suc x) 0 ≡ false
    not_zero = ne_eqb (suc x) 0 (λ e. omega arith)

    value : (M : ℕ) → M * 2 ^ x * 8388608 ≡ N * 2 ^ 1074 → M * 2 ^ (suc x - 1 + 23) ≡ N * 2 ^ 1074
    value M e = ap (λ (k : ℕ). M * 2 ^ k) raised ∙ ap (λ (k : ℕ). M * k) (pow-add 2 x 23) ∙ sym (mul_assoc M (2 ^ x) 8388608) ∙ e

    go : (c : Bool) → eqb (suc x) 2047 ≡ c → HasValue (cond c (cond (eqb t 0) (inf s') nan) (odd 53 s' (4503599627370496 + t) x 1074)) s N 8388608 → Read s' s (suc x) t N
    go true e v = absurd (none (eqb t 0) v)
    go false e v =
        let M = 4503599627370496 + t in
        let w = crossed (odd 53 s' M x 1074) s' s (M * 2 ^ x) (2 ^ 1074) N 8388608 (odd_sign 53 s' M x 1074) v in
        (w.0, lt_of_le-ne (le_of_suc-le-suc b) (eqb-false (suc x) 2047 e), ap (λ (c : Bool). cond c t M * 2 ^ (suc x - 1 + 23)) not_zero ∙ value M w.1)

negative : ℤ → Bool
negative n = not (non_neg n)

-- the whole number as a float
of_int_lem : (n : ℤ) → mag n < 8388608 → HasValue (of_int binary64 n) (not (non_neg n)) (nat_abs n) 1
unfolding of_int
of_int_lem (pos n) h = round_whole binary64 false n (le_of_lt (lt_trans h (lit< tt)))
of_int_lem (negsuc n) h = round_whole binary64 true (suc n) (le_of_lt (lt_of_le_of_lt h (lit< tt)))

size : (n : ℤ) → mag n < 8388608 → nat_abs n ≤ 8388608
size (pos n) h = le_of_lt h
size (negsuc n) h = h

factor : of_bits binary64 0x4066_8000_0000_0000 ≡ fin false 45 (pos 2)
unfolding of_bits
factor = refl

divisor : of_bits binary64 0x4160_0000_0000_0000 ≡ fin false 1 (pos 23)
unfolding of_bits
divisor = refl

value_of : (n : ℤ) → mag n < 8388608 → HasValue (degrees n) (not (non_neg n)) (180 * nat_abs n) 8388608
value_of n h =
    let b = size n h in
    subst (λ (x : Float). HasValue (div binary64 (mul binary64 (of_int binary64 n) x) (of_bits binary64 0x4160_0000_0000_0000)) (not (non_neg n)) (180 * nat_abs n) 8388608) (sym factor)
    (subst (λ (x : Float). HasValue (div binary64 (mul binary64 (of_int binary64 n) (fin false 45 (pos 2))) x) (not (non_neg n)) (180 * nat_abs n) 8388608) (sym divisor)
    (over (mul binary64 (of_int binary64 n) (fin false 45 (pos 2))) (not (non_neg n)) (180 * nat_abs n) (omega arith) (by180 (of_int binary64 n) (not (non_neg n)) (nat_abs n) b (of_int_lem n h))))

pub exactly : (n : ℤ) → mag n < 8388608 → Exactly n (to_bits binary64 (degrees n))
unfolding Read of_bits
exactly n h =
    let r = degrees n in
    let b = to_bits binary64 r in
    let back : of_bits binary64 b ≡ r = of_bits-to_bits binary64 r (div-fits binary64 (mul binary64 (of_int binary64 n) (of_bits binary64 0x4066_8000_0000_0000)) (of_bits binary64 0x4160_0000_0000_0000)) in
    let v : HasValue (of_bits binary64 b) (not (non_neg n)) (180 * nat_abs n) 8388608 = subst (λ (x : Float). HasValue x (not (non_neg n)) (180 * nat_abs n) 8388608) (sym back) (value_of n h) in
    let f = fields (leb 9223372036854775808 b) (not (non_neg n)) (b % 9223372036854775808 / 4503599627370496) (b % 4503599627370496) (180 * nat_abs n) (omega arith) v in
    record { sign = f.0; finite = f.1; value = f.2 }

-- as the code tests it
pub exact_step : (n : ℤ) {x : Float} → ltb (mag n) 8388608 ≡ true → x ≡ degrees n → Exactly n (to_bits binary64 x)
exact_step n e d = rw d (exactly n (ltb-true (mag n) 8388608 e))

pub exact_degrees : ExactDegrees
unfolding in_degrees ExactlyAt
exact_degrees a o = go (leb 8388608 (mag a)) refl (leb 8388608 (mag o)) refl
  where
    go : (s : Bool) → leb 8388608 (mag a) ≡ s → (t : Bool) → leb 8388608 (mag o) ≡ t
        → ExactlyAt a o (cond s (Err BadField) (cond t (Err BadField) (Ok (record { latitude = degrees a; longitude = degrees o }))))
    go true e t f = refl
    go false e true f = refl
    go false e false f = (exactly a (leb-false 8388608 (mag a) e), exactly o (leb-false 8388608 (mag o) f))
