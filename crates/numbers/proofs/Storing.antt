-- Storing bytes one after the other.
-- Assumes nothing.
use mathlib.Core.Path.{◌≡◌, refl, sym, ap, ap₂, ◌∙◌}
use Prim.Native.Nat.{ℕ, suc, ◌+◌, ◌≤◌}
use mathlib.Core.List.{List, [], ◌∷◌, ◌++◌}
use native.Mathlib.Omega.{arith}
use native.Mathlib.Nat.{add-zero, zero-add}
use lib.ListN.{length, drop, set, length-append}
use lib.Seq.{sets, sets-eq, length-sets}
use Rattle.numbers.specs.Lent.{written, Stored}

sets-append : (xs ys out : List ℕ) (at : ℕ) → sets out at (xs ++ ys) ≡ sets (sets out at xs) (at + length xs) ys
sets-append [] ys out at = ap (λ (n : ℕ). sets out n ys) (sym (add-zero at))
sets-append (x ∷ xs) ys out at =
    let seam : suc at + length xs ≡ at + length (x ∷ xs) = omega arith in
    sets-append xs ys (set out at x) (suc at) ∙ ap (λ (n : ℕ). sets (sets out at (x ∷ xs)) n ys) seam

-- no place comes or goes
pub stored-length : {out left bytes : List ℕ} {at next : ℕ} → Stored out at bytes next left → length left ≡ length out
stored-length {out} {bytes = bytes} {at = at} s = ap length s.leaves ∙ length-sets out at bytes

-- some bytes, and then some more behind them
pub then : {out mid left xs ys : List ℕ} {at next last : ℕ} → Stored out at xs next mid → Stored mid next ys last left → Stored out at (xs ++ ys) last left
then {out} {xs = xs} {ys = ys} {at = at} a b = record {
  ends = omega (arith, a.ends, b.ends, length-append xs ys);
  leaves = b.leaves ∙ ap₂ (λ (l : List ℕ) (n : ℕ). sets l n ys) a.leaves a.ends ∙ sym (sets-append xs ys out at);
}

-- and one more
pub also : {out mid : List ℕ} {at n : ℕ} (xs : List ℕ) (x next : ℕ) → next ≡ n + 1 → Stored out at xs n mid → Stored out at (xs ++ (x ∷ [])) next (set mid n x)
also xs x next e s = then s (record { ends = e; leaves = refl })

-- what a loop that stores `bytes` from `at` on has left: storing `rest` from `next` on ends it
abbrev pub Rest : (out : List ℕ) (at : ℕ) (bytes mid : List ℕ) (next : ℕ) (rest : List ℕ) → Type 0
Rest out at bytes mid next rest = (last : ℕ) (left : List ℕ) → Stored mid next rest last left → Stored out at bytes last left

module _ {out bytes mid : List ℕ} {at next : ℕ} where
  pub rest_more : {xs ys after : List ℕ} {n : ℕ} → Stored mid next xs n after → Rest out at bytes mid next (xs ++ ys) → Rest out at bytes after n ys
  rest_more a h last left s = h last left (then a s)

  pub rest_none : Rest out at bytes mid next [] → Stored out at bytes next mid
  rest_none h = h next mid (record { ends = sym (add-zero next); leaves = refl })

  pub rest_size : {rest : List ℕ} → Rest out at bytes mid next rest → next + length rest ≡ at + length bytes
  rest_size h = (h _ _ (record { ends = refl; leaves = refl })).ends

-- from the first place on
pub from_first : (bytes out : List ℕ) → length bytes ≤ length out → sets out 0 bytes ≡ written bytes out
unfolding written
from_first bytes out h = sets-eq bytes out 0 (omega arith) ∙ ap (λ (n : ℕ). bytes ++ drop n out) (zero-add (length bytes))
