-- The list of code characters and its inverse.
-- Assumes nothing.
use mathlib.Core.Path.{◌≡◌, refl, sym, ap, ◌∙◌}
use mathlib.Core.Bool.{Bool, true, false, cond, not, ◌&&◌, ◌||◌}
use Prim.Native.Nat.{ℕ, zero, suc, ◌+◌, ◌%◌, ◌<◌}
use mathlib.Core.List.{List, [], ◌∷◌}
use native.Mathlib.Omega.{arith}
use native.Mathlib.Nat.{zero-add}
use lib.Dec.{eqb, leb, ltb}
use lib.ListN.{get_or, get_or-eq_default}
use borrow.Author.Tests.{eqb-true, ltb-true, ltb-false, leb-true}
use Rattle.numbers.proofs.Every.{every, at}
use Rattle.characters.specs.Characters.{code_characters, character_of, place_in, code_of, is_listed}
use Rattle.characters.specs.Claims.{Which, Inverse}

-- every character's byte has the code at which it stands: computed at each of the 64
computed : (code : ℕ) → code < 64 → (leb (character_of code) 0 || eqb (code_of (character_of code)) code) ≡ true
unfolding every character_of code_of place_in
computed code h = at (λ k. leb (character_of k) 0 || eqb (code_of (character_of k)) k) 64 refl code h

pub code_small : (code : ℕ) → 0 < character_of code → code < 64
unfolding character_of
code_small code h = go (ltb code 64) refl
  where
    go : (t : Bool) → ltb code 64 ≡ t → code < 64
    go true e = ltb-true code 64 e
    go false e = absurd (omega (arith, get_or-eq_default code_characters 0 {n = code} (ltb-false code 64 e)))

-- what a test says of numbers that are not 0
where_positive : (n x y : ℕ) → (leb n 0 || eqb x y) ≡ true → 0 < n → x ≡ y
where_positive n x y t h = go (leb n 0) (eqb x y) refl refl t
  where
    go : (s t : Bool) → leb n 0 ≡ s → eqb x y ≡ t → (s || t) ≡ true → x ≡ y
    go true t e f k = absurd (omega (arith, leb-true n 0 e))
    go false true e f k = eqb-true _ _ f
    go false false e f k = cc

pub code_back : (code : ℕ) → 0 < character_of code → code_of (character_of code) ≡ code
code_back code h = where_positive (character_of code) _ _ (computed code (code_small code h)) h

-- where a byte was found
abbrev Place : ℕ → ℕ → List ℕ → ℕ → Type 0
Place b place cs n = (i : ℕ) × (n ≡ place + i) × (get_or cs i 0 ≡ b)

found : (b place : ℕ) (cs : List ℕ) → 0 < place_in b place cs → Place b place cs (place_in b place cs)
unfolding place_in
found b place [] h = absurd (omega arith)
found b place (c ∷ cs) h = go (eqb b c) refl h (found b (suc place) cs)
  where
    go : (t : Bool) → eqb b c ≡ t → 0 < cond t place (place_in b (suc place) cs)
        → (0 < place_in b (suc place) cs → Place b (suc place) cs (place_in b (suc place) cs)) → Place b place (c ∷ cs) (cond t place (place_in b (suc place) cs))
    go true e h rest = (0, omega arith, sym (eqb-true b c e))
    go false e h rest = let f = rest h in (suc f.0, omega (arith, f.1), f.2)

pub character_back : (b : ℕ) → 0 < code_of b → character_of (code_of b) ≡ b
unfolding code_of character_of
character_back b h =
    let f = found b 0 code_characters h in
    ap (λ (k : ℕ). get_or code_characters k 0) (f.1 ∙ zero-add f.0) ∙ f.2

pub inverse : Inverse
inverse = (code_back, character_back)

-- 0 is no character's byte
code_of_zero : code_of 0 ≡ 0
unfolding code_of place_in
code_of_zero = refl

pub positive : (b : ℕ) → 0 < code_of b → 0 < b
positive zero h = absurd (omega (arith, code_of_zero))
positive (suc b) h = omega arith

pub code_lt : (b : ℕ) → code_of b < 64
code_lt b = go (ltb 0 (code_of b)) refl
  where
    go : (t : Bool) → ltb 0 (code_of b) ≡ t → code_of b < 64
    go true e = let h = ltb-true 0 (code_of b) e in code_small (code_of b) (omega (arith, character_back b h, positive b h))
    go false e = omega (arith, ltb-false 0 (code_of b) e)

-- what the code tests of a byte that the list has, computed at each
listed_computed : (b : ℕ) → b < 256 → (leb (code_of b) 0 || eqb (cond (leb 32 b) (b % 64) (cond (eqb b 0x0A) 30 29)) (code_of b)) ≡ true
unfolding every code_of place_in
listed_computed b h = at (λ k. leb (code_of k) 0 || eqb (cond (leb 32 k) (k % 64) (cond (eqb k 0x0A) 30 29)) (code_of k)) 256 refl b h

pub listed_rule : (b : ℕ) → b < 256 → 0 < code_of b → cond (leb 32 b) (b % 64) (cond (eqb b 0x0A) 30 29) ≡ code_of b
listed_rule b h k = where_positive (code_of b) _ _ (listed_computed b h) k

-- which bytes it has
abbrev tests : ℕ → Bool
tests b = ((leb 32 b && leb b 90) && not (eqb b 64)) || (eqb b 0x1E || eqb b 0x0A)

tests_computed : (b : ℕ) → b < 256 → cond (tests b) (is_listed b) (not (is_listed b)) ≡ true
unfolding every code_of place_in
tests_computed b h = at (λ k. cond (tests k) (is_listed k) (not (is_listed k))) 256 refl b h

same : (x y : Bool) → cond x y (not y) ≡ true → x ≡ y
same true true e = refl
same true false e = cc
same false true e = cc
same false false e = refl

pub listed_test : (b : ℕ) → b < 256 → tests b ≡ is_listed b
listed_test b h = same (tests b) (is_listed b) (tests_computed b h)

which_computed : (code : ℕ) → code < 64
    → cond (ltb 0 (character_of code)) (not ((eqb code 0 || eqb code 27) || (eqb code 28 || eqb code 31))) (not (not ((eqb code 0 || eqb code 27) || (eqb code 28 || eqb code 31)))) ≡ true
unfolding every character_of
which_computed code h = at (λ k. cond (ltb 0 (character_of k)) (not ((eqb k 0 || eqb k 27) || (eqb k 28 || eqb k 31))) (not (not ((eqb k 0 || eqb k 27) || (eqb k 28 || eqb k 31))))) 64 refl code h

pub which : Which
which code h = same _ _ (which_computed code h)
