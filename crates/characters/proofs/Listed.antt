-- Texts whose bytes the list has.
-- Assumes nothing.
use mathlib.Core.Path.{◌≡◌, refl}
use mathlib.Core.Bool.{Bool, true, false, ◌&&◌}
use Prim.Native.Nat.{ℕ, zero, suc, ◌+◌, ◌≤◌, ◌<◌}
use mathlib.Core.List.{List, [], ◌∷◌, ◌++◌}
use native.Mathlib.Omega.{arith}
use native.Mathlib.Numerals.{add-one}
use lib.Dec.{ltb}
use lib.ListN.{length, get_or, drop, drop_of_length-le}
use lib.Seq.{drop-cons}
use borrow.Author.Tests.{lt-ltb, ltb-true}
use Rattle.numbers.proofs.Every.{both}
use Rattle.characters.specs.Characters.{code_of, is_listed, are_listed}

pub listed_both : (b : ℕ) (bs : List ℕ) → are_listed (b ∷ bs) ≡ true → (0 < code_of b) × (are_listed bs ≡ true)
unfolding are_listed
listed_both b bs e = let p = both (ltb 0 (code_of b)) (are_listed bs) e in (ltb-true 0 (code_of b) p.0, p.1)

pub listed-append : (xs ys : List ℕ) → are_listed xs ≡ true → are_listed ys ≡ true → are_listed (xs ++ ys) ≡ true
unfolding are_listed
listed-append [] ys e f = f
listed-append (x ∷ xs) ys e f =
    let p = listed_both x xs e in simp (lt-ltb 0 (code_of x) p.0, listed-append xs ys p.1 f)

-- one byte more seen, of which r tells
pub listed_next : (all : Bool) (bs : List ℕ) (i : ℕ) (r : Bool) → i < length bs → r ≡ is_listed (get_or bs i 0)
    → ((all && r) && are_listed (drop (i + 1) bs)) ≡ (all && are_listed (drop i bs))
unfolding are_listed
listed_next true bs i r h e = rw (add-one, drop-cons bs i 0 h, e)
listed_next false bs i r h e = refl

pub listed_all : (all : Bool) (bs : List ℕ) (i : ℕ) → length bs ≤ i → all ≡ (all && are_listed (drop i bs))
unfolding are_listed
listed_all true bs i h = rw (drop_of_length-le bs h)
listed_all false bs i h = refl

-- each byte of a text that the list has
pub listed_at : (bs : List ℕ) (i : ℕ) → are_listed bs ≡ true → i < length bs → 0 < code_of (get_or bs i 0)
listed_at [] i e h = absurd (omega arith)
listed_at (b ∷ bs) zero e h = (listed_both b bs e).0
listed_at (b ∷ bs) (suc i) e h = listed_at bs i (listed_both b bs e).1 (omega arith)
