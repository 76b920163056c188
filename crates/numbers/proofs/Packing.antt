-- Rows of bits, in groups of any width: splitting and joining them, and the numbers that they make.
-- Assumes nothing.
use mathlib.Core.Path.{◌≡◌, refl, sym, ap, ap₂, ◌∙◌, subst}
use Prim.Native.Nat.{ℕ, zero, suc, ◌+◌, ◌-◌, ◌*◌, ◌/◌, ◌%◌, ◌^◌, ◌≤◌, ◌<◌}
use mathlib.Core.List.{List, [], ◌∷◌, ◌++◌, append_assoc, append-nil, foldl, map}
use native.Mathlib.Omega.{arith}
use native.Mathlib.Numerals.{add-one}
use native.Mathlib.Nat.{zero-add, suc-add, pow-succ', div-div-eq-div-mul, mul-add-div_right, mul-add-mod_self_right}
use lib.Arith.{digits_div, mod-mul}
use lib.Pow.{pow_pos, pow-add}
use lib.ListN.{length, length-append}
use lib.Seq.{append_snoc}
use Rattle.numbers.specs.Bits.{bit, AreBits}
use Rattle.numbers.proofs.Xor.{bit_lt}
use Rattle.numbers.specs.Packing.{bits_of, bits_in, gather, numbers_in}

bit_high : (i j n : ℕ) → bit (i + j) n ≡ bit i (n / 2 ^ j)
unfolding bit
bit_high i j n =
    let e : 2 ^ (i + j) ≡ 2 ^ j * 2 ^ i = omega (arith, pow-add 2 i j) in
    ap (λ (m : ℕ). n / m % 2) e ∙ ap (λ (m : ℕ). m % 2) (sym (div-div-eq-div-mul n (2 ^ j) (2 ^ i)))

-- the high bits are those of the quotient
bits_split : (i j n : ℕ) → bits_of (i + j) n ≡ bits_of i (n / 2 ^ j) ++ bits_of j n
unfolding bits_of
bits_split zero j n = ap (λ (k : ℕ). bits_of k n) (zero-add j)
bits_split (suc i) j n = rw (suc-add i j) (ap₂ (λ (b : ℕ) (l : List ℕ). b ∷ l) (bit_high i j n) (bits_split i j n))

bit_low : (k d x y : ℕ) → bit k (x * 2 ^ (d + suc k) + y) ≡ bit k y
unfolding bit
bit_low k d x y =
    let e : x * 2 ^ (d + suc k) + y ≡ x * 2 ^ d * 2 * 2 ^ k + y = rw (pow-add 2 d (suc k), pow-succ' 2 k) (omega arith) in
    ap (λ (m : ℕ). m / 2 ^ k % 2) e
    ∙ ap (λ (m : ℕ). m % 2) (mul-add-div_right (pow_pos k) (x * 2 ^ d * 2) y)
    ∙ mul-add-mod_self_right (x * 2 ^ d) 2 (y / 2 ^ k)

-- the low bits of a sum do not see the high part
bits_low : (k j x y : ℕ) → k ≤ j → bits_of k (x * 2 ^ j + y) ≡ bits_of k y
unfolding bits_of
bits_low zero j x y h = refl
bits_low (suc k) j x y h =
    let e : j ≡ j - suc k + suc k = omega arith in
    ap₂ (λ (b : ℕ) (l : List ℕ). b ∷ l)
    (ap (λ (m : ℕ). bit k (x * 2 ^ m + y)) e ∙ bit_low k (j - suc k) x y)
    (bits_low k j x y (omega arith))

-- bits behind others are those of one number
pub bits_join : (i j x y : ℕ) → y < 2 ^ j → bits_of i x ++ bits_of j y ≡ bits_of (i + j) (x * 2 ^ j + y)
bits_join i j x y h =
    sym (bits_split i j (x * 2 ^ j + y) ∙ ap₂ (λ (n : ℕ) (l : List ℕ). bits_of i n ++ l) (digits_div x h) (bits_low j j x y (omega arith)))

gather_one : (width n k m : ℕ) (rest : List ℕ)
    → gather width n (suc k) (bits_of (suc k) m ++ rest) ≡ (n * 2 ^ suc k + m % 2 ^ suc k) ∷ gather width 0 width rest
unfolding gather bits_of bit
gather_one width n zero m rest = ap (λ (x : ℕ). x ∷ gather width 0 width rest) (omega arith)
gather_one width n (suc k) m rest =
    gather_one width (n * 2 + bit (suc k) m) k m rest
    ∙ ap (λ (x : ℕ). x ∷ gather width 0 width rest)
    (rw (pow-succ' 2 (suc k)) (omega (arith, mod-mul m {m = 2} {c = 2 ^ suc k} (omega arith) (pow_pos (suc k)))))

-- the first number of a row that starts with its bits
pub number_first : (k m : ℕ) (rest : List ℕ) → numbers_in (suc k) (bits_of (suc k) m ++ rest) ≡ m % 2 ^ suc k ∷ numbers_in (suc k) rest
unfolding numbers_in
number_first k m rest = gather_one (suc k) 0 k m rest ∙ ap (λ (x : ℕ). x ∷ gather (suc k) 0 (suc k) rest) (omega arith)

pub numbers_first : (k : ℕ) (ns rest : List ℕ) → numbers_in (suc k) (bits_in (suc k) ns ++ rest) ≡ map (λ n. n % 2 ^ suc k) ns ++ numbers_in (suc k) rest
unfolding bits_in
numbers_first k [] rest = refl
numbers_first k (n ∷ ns) rest =
    ap (numbers_in (suc k)) (append_assoc (bits_of (suc k) n) (bits_in (suc k) ns) rest)
    ∙ number_first k n (bits_in (suc k) ns ++ rest)
    ∙ ap (λ (l : List ℕ). n % 2 ^ suc k ∷ l) (numbers_first k ns rest)

pub length-bits_of : (k n : ℕ) → length (bits_of k n) ≡ k
unfolding bits_of
length-bits_of zero n = refl
length-bits_of (suc k) n = ap suc (length-bits_of k n)

pub length-bits_in : (k : ℕ) (ns : List ℕ) → length (bits_in k ns) ≡ length ns * k
unfolding bits_in
length-bits_in k [] = omega arith
length-bits_in k (n ∷ ns) = omega (arith, length-append (bits_of k n) (bits_in k ns), length-bits_of k n, length-bits_in k ns)

pub both_bits : (xs ys : List ℕ) → AreBits xs → AreBits ys → AreBits (xs ++ ys)
both_bits [] ys h k = k
both_bits (x ∷ xs) ys h k = (h.0, both_bits xs ys h.1 k)

pub bits_of_lem : (k n : ℕ) → AreBits (bits_of k n)
unfolding bits_of
bits_of_lem zero n = tt
bits_of_lem (suc k) n = (bit_lt k n, bits_of_lem k n)

pub bits_in_lem : (k : ℕ) (ns : List ℕ) → AreBits (bits_in k ns)
unfolding bits_in
bits_in_lem k [] = tt
bits_in_lem k (n ∷ ns) = both_bits (bits_of k n) (bits_in k ns) (bits_of_lem k n) (bits_in_lem k ns)

-- one bit more, behind those of a number
more : (d n b : ℕ) (bs : List ℕ) → b < 2 → bits_of d n ++ b ∷ bs ≡ bits_of (suc d) (n * 2 + b) ++ bs
unfolding bits_of bit
more d n b bs h =
    let one : bits_of 1 b ≡ b ∷ [] = ap (λ (x : ℕ). x ∷ []) (omega arith) in
    sym (append_snoc (bits_of d n) b bs)
    ∙ ap (λ (l : List ℕ). l ++ bs)
    (ap (λ (l : List ℕ). bits_of d n ++ l) (sym one) ∙ bits_join d 1 n b h ∙ ap (λ (k : ℕ). bits_of k (n * 2 + b)) (add-one d))

-- what the numbers of a row leave over is fewer bits than a number has
pub record Whole (width : ℕ) (start row : List ℕ) (ns : List ℕ) : Type 0 where
  pub rest : List ℕ
  pub fewer : length rest < width
  pub is : start ++ row ≡ bits_in width ns ++ rest

-- the last bit of a number, before a row that is whole
ends : (width n done b : ℕ) (row ns : List ℕ) → suc done ≡ width → b < 2 → Whole width [] row ns → Whole width (bits_of done n) (b ∷ row) ((n * 2 + b) ∷ ns)
unfolding bits_in
ends width n done b row ns w h r = record {
  rest = r.rest;
  fewer = r.fewer;
  is = more done n b row h ∙ ap₂ (λ (k : ℕ) (l : List ℕ). bits_of k (n * 2 + b) ++ l) w r.is ∙ sym (append_assoc (bits_of width (n * 2 + b)) (bits_in width ns) r.rest);
}

gather_whole : (width n done missing : ℕ) (row : List ℕ) → done + suc missing ≡ width → AreBits row → Whole width (bits_of done n) row (gather width n (suc missing) row)
unfolding gather bits_in bits_of
gather_whole width n done missing [] e h = record { rest = bits_of done n; fewer = omega (arith, length-bits_of done n); is = append-nil _ }
gather_whole width n done zero (b ∷ row) e h =
    let w : suc done ≡ width = omega arith in
    ends width n done b row (gather width 0 width row) w h.0
    (subst (λ (k : ℕ). Whole width [] row (gather width 0 k row)) w (gather_whole width 0 0 done row (omega arith) h.1))
gather_whole width n done (suc k) (b ∷ row) e h =
    let r = gather_whole width (n * 2 + b) (suc done) k row (omega arith) h.1 in
    record { rest = r.rest; fewer = r.fewer; is = more done n b row h.0 ∙ r.is }

pub whole : (k : ℕ) (row : List ℕ) → AreBits row → Whole (suc k) [] row (numbers_in (suc k) row)
unfolding numbers_in bits_of
whole k row h = gather_whole (suc k) 0 0 k row (omega arith) h

gather_none : (width n missing : ℕ) (row : List ℕ) → length row ≤ missing → gather width n (suc missing) row ≡ []
unfolding gather
gather_none width n missing [] h = refl
gather_none width n zero (b ∷ row) h = absurd (omega arith)
gather_none width n (suc k) (b ∷ row) h = gather_none width (n * 2 + b) k row (omega arith)

-- fewer bits than a number has make none
pub no_number : (k : ℕ) (row : List ℕ) → length row ≤ k → numbers_in (suc k) row ≡ []
unfolding numbers_in
no_number k row h = gather_none (suc k) 0 k row h

pub bits_in-append : (w : ℕ) (xs ys : List ℕ) → bits_in w (xs ++ ys) ≡ bits_in w xs ++ bits_in w ys
unfolding bits_in
bits_in-append w [] ys = refl
bits_in-append w (x ∷ xs) ys =
    ap (λ (l : List ℕ). bits_of w x ++ l) (bits_in-append w xs ys) ∙ sym (append_assoc (bits_of w x) (bits_in w xs) (bits_in w ys))

abbrev pub Below : ℕ → List ℕ → Type 0
Below w [] = Unit {0}
Below w (n ∷ ns) = (n < 2 ^ w) × Below w ns

-- the bits of numbers behind those of x are those of one number
pub bits_more : (w i x : ℕ) (ns rest : List ℕ) → Below w ns
    → bits_of i x ++ (bits_in w ns ++ rest) ≡ bits_of (i + length ns * w) (foldl (λ p n. p * 2 ^ w + n) x ns) ++ rest
unfolding bits_in
bits_more w i x [] rest h = let none : i ≡ i + 0 * w = omega arith in ap (λ (k : ℕ). bits_of k x ++ rest) none
bits_more w i x (n ∷ ns) rest h =
    let y = x * 2 ^ w + n in
    let size : i + w + length ns * w ≡ i + length (n ∷ ns) * w = omega arith in
    ap (λ (l : List ℕ). bits_of i x ++ l) (append_assoc (bits_of w n) (bits_in w ns) rest)
    ∙ sym (append_assoc (bits_of i x) (bits_of w n) (bits_in w ns ++ rest))
    ∙ ap (λ (l : List ℕ). l ++ (bits_in w ns ++ rest)) (bits_join i w x n h.0)
    ∙ bits_more w (i + w) y ns rest h.1
    ∙ ap (λ (k : ℕ). bits_of k (foldl (λ p n. p * 2 ^ w + n) y ns) ++ rest) size

-- the last n numbers of `width` bits each that a number's bits make
abbrev pub groups : ℕ → ℕ → ℕ → List ℕ
groups width zero m = []
groups width (suc n) m = m / 2 ^ (n * width) % 2 ^ width ∷ groups width n m

pub groups_first : (k n m : ℕ) (rest : List ℕ) → numbers_in (suc k) (bits_of (n * suc k) m ++ rest) ≡ groups (suc k) n m ++ numbers_in (suc k) rest
unfolding bits_of
groups_first k zero m rest = let none : 0 * suc k ≡ 0 = omega arith in ap (λ (j : ℕ). numbers_in (suc k) (bits_of j m ++ rest)) none
groups_first k (suc n) m rest =
    let size : suc n * suc k ≡ suc k + n * suc k = omega arith in
    let more = bits_of (n * suc k) m in
    ap (λ (j : ℕ). numbers_in (suc k) (bits_of j m ++ rest)) size
    ∙ ap (numbers_in (suc k)) (ap (λ (l : List ℕ). l ++ rest) (bits_split (suc k) (n * suc k) m) ∙ append_assoc (bits_of (suc k) (m / 2 ^ (n * suc k))) more rest)
    ∙ number_first k (m / 2 ^ (n * suc k)) (more ++ rest)
    ∙ ap (λ (l : List ℕ). m / 2 ^ (n * suc k) % 2 ^ suc k ∷ l) (groups_first k n m rest)

-- w bits of x and then j of y, in a group of their own width and the k bits of y that are left
pub next_number : (i j k w x y : ℕ) (rest : List ℕ) → w + j ≡ suc i + k → k ≤ j → y < 2 ^ j
    → numbers_in (suc i) (bits_of w x ++ (bits_of j y ++ rest)) ≡ (x * 2 ^ j + y) / 2 ^ k % 2 ^ suc i ∷ numbers_in (suc i) (bits_of k y ++ rest)
next_number i j k w x y rest e h l =
    let n = x * 2 ^ j + y in
    ap (numbers_in (suc i))
    (sym (append_assoc (bits_of w x) (bits_of j y) rest)
    ∙ ap (λ (r : List ℕ). r ++ rest)
    (bits_join w j x y l ∙ ap (λ (m : ℕ). bits_of m n) e ∙ bits_split (suc i) k n ∙ ap (λ (r : List ℕ). bits_of (suc i) (n / 2 ^ k) ++ r) (bits_low k j x y h))
    ∙ append_assoc (bits_of (suc i) (n / 2 ^ k)) (bits_of k y) rest)
    ∙ number_first i (n / 2 ^ k) (bits_of k y ++ rest)

-- a number of a row has no more bits than its width
pub numbers_small : (k : ℕ) (row : List ℕ) → AreBits row → map (λ n. n % 2 ^ suc k) (numbers_in (suc k) row) ≡ numbers_in (suc k) row
numbers_small k row h =
    let w = whole k row h in
    sym
    (ap (numbers_in (suc k)) w.is
    ∙ numbers_first k (numbers_in (suc k) row) w.rest
    ∙ ap (λ (l : List ℕ). map (λ n. n % 2 ^ suc k) (numbers_in (suc k) row) ++ l) (no_number k w.rest (omega (arith, w.fewer)))
    ∙ append-nil _)

-- and there are no more of them than fit
pub numbers_fit : (k : ℕ) (row : List ℕ) → AreBits row → length (numbers_in (suc k) row) * suc k ≤ length row
numbers_fit k row h =
    let w = whole k row h in
    let n = numbers_in (suc k) row in
    omega (arith, ap length w.is, length-append (bits_in (suc k) n) w.rest, length-bits_in (suc k) n)
