-- How a packet capture is told.
-- Assumes nothing.
use mathlib.Core.Path.{◌≡◌, refl, ◌∙◌}
use mathlib.Core.Bool.{Bool, true, false}
use mathlib.Core.List.{List, [], ◌∷◌, ◌++◌}
use Prim.Native.Nat.{ℕ, ◌+◌, ◌*◌, ◌≤◌, ◌<◌}
use native.Mathlib.Omega.{arith}
use native.Mathlib.Numerals.{add-one}
use lib.Dec.{ltb}
use borrow.Author.Tests.{lt-ltb, le-ltb, ltb-false}
use lib.ListN.{length, drop, get_or, drop_of_length-le}
use lib.Seq.{drop-cons}
use Rattle.numbers.specs.Bytes.{AreBytes}
use Rattle.captures.specs.Captures.{start, least, begun, four}
use Rattle.captures.specs.Claims.{Told}

-- behind four bytes nothing counts
pub full : (n : ℕ) (bs : List ℕ) → least ≤ n → begun n bs ≡ n
unfolding begun
full n [] h = refl
full n (b ∷ bs) h = rw (le-ltb n least h)

one_more : (n b : ℕ) (bs : List ℕ) → n < least → begun n (b ∷ bs) ≡ begun (n * 256 + b) bs
unfolding begun
one_more n b bs h = rw (lt-ltb n least h)

-- from the bytes that are left
pub next : (n : ℕ) (bs : List ℕ) (i : ℕ) → n < least → i < length bs → begun n (drop i bs) ≡ begun (n * 256 + get_or bs i 0) (drop (i + 1) bs)
next n bs i few h = rw (add-one, drop-cons bs i 0) (one_more n _ _ few)

pub none_left : (n : ℕ) (bs : List ℕ) (i : ℕ) → length bs ≤ i → begun n (drop i bs) ≡ n
unfolding begun
none_left n bs i h = rw (drop_of_length-le bs h)

pieces_by : (n x : ℕ) (xs ys : List ℕ) → begun (begun (n * 256 + x) xs) ys ≡ begun (n * 256 + x) (xs ++ ys)
    → (t : Bool) → ltb n least ≡ t → begun (begun n (x ∷ xs)) ys ≡ begun n ((x ∷ xs) ++ ys)
unfolding begun
pieces_by n x xs ys ih true e = rw e ih
pieces_by n x xs ys ih false e = rw e (full n ys (ltb-false n _ e))

pieces : (n : ℕ) (xs ys : List ℕ) → begun (begun n xs) ys ≡ begun n (xs ++ ys)
unfolding begun
pieces n [] ys = refl
pieces n (x ∷ xs) ys = pieces_by n x xs ys (pieces (n * 256 + x) xs ys) (ltb n least) refl

first : (a b c d : ℕ) (bs : List ℕ) → AreBytes (a ∷ b ∷ c ∷ d ∷ []) → begun start (a ∷ b ∷ c ∷ d ∷ bs) ≡ four a b c d
unfolding AreBytes
first a b c d bs h =
    one_more _ a _ (omega arith)
    ∙ one_more _ b _ (omega arith)
    ∙ one_more _ c _ (omega arith)
    ∙ one_more _ d _ (omega arith)
    ∙ full _ bs (omega arith)
    ∙ omega arith

apart : (a b c d e f g h : ℕ) → AreBytes (a ∷ b ∷ c ∷ d ∷ []) → AreBytes (e ∷ f ∷ g ∷ h ∷ []) → four a b c d ≡ four e f g h → (a ≡ e) × (b ≡ f) × (c ≡ g) × (d ≡ h)
unfolding AreBytes
apart a b c d e f g h u v p = (omega arith, omega arith, omega arith, omega arith)

fewer : (bs : List ℕ) → AreBytes bs → length bs < 4 → begun start bs < least
unfolding AreBytes begun
fewer [] u h = omega arith
fewer (a ∷ []) u h = omega arith
fewer (a ∷ b ∷ []) u h = omega (arith, one_more (256 + a) b [] (omega arith))
fewer (a ∷ b ∷ c ∷ []) u h =
    omega (arith, one_more (256 + a) b (c ∷ []) (omega arith), one_more ((256 + a) * 256 + b) c [] (omega arith))
fewer (a ∷ b ∷ c ∷ d ∷ bs) u h = absurd (omega arith)

pub told : Told
told = record { pieces = pieces; first = first; apart = apart; fewer = fewer }
