-- `generic_text::put_last` meets its contract, by how many characters are left.
-- Assumes nothing.
use mathlib.Core.Path.{refl, sym}
use Prim.Native.Nat.{◌+◌, ◌*◌}
use mathlib.Core.List.{[], ◌∷◌}
use native.Mathlib.Omega.{arith}
use native.Mathlib.Nat.{add-zero}
use lib.ListN.{length-set}
use Rattle.numbers.proofs.Storing.{also}
use Rattle.characters.proofs.Listed.{listed_at}
use Rattle.generic_text.proofs.Putting.{small, packed-length, of_none, of_one, of_two, of_three}
use Rattle.generic_text.proofs.put_last.Goals as goal

pub listed_code-requires : goal.listed_code-requires
listed_code-requires c = listed_at _ 0 c.requires.1 (omega arith)

pub overflow_mul-out : goal.overflow_mul-out
overflow_mul-out c = omega (arith, small _ _ c.listed_code.ensures)

pub bounds-out-at : goal.bounds-out-at
bounds-out-at c = omega (arith, packed-length c.args.left.now)

pub bounds-out-at-in-len1-2 : goal.bounds-out-at-in-len1-2
bounds-out-at-in-len1-2 c = simp length-set (omega (arith, packed-length c.args.left.now))

pub listed_code-a-requires : goal.listed_code-a-requires
listed_code-a-requires c = listed_at _ 0 c.requires.1 (omega arith)

pub listed_code-b-requires : goal.listed_code-b-requires
listed_code-b-requires c = listed_at _ 1 c.requires.1 (omega arith)

pub put_three-requires : goal.put_three-requires
put_three-requires c = (omega (arith, packed-length c.args.left.now), (small _ _ c.listed_code-a.ensures, small _ _ c.listed_code-b.ensures, omega arith, omega arith))

pub listed_code-a-requires-in-len3-up : goal.listed_code-a-requires-in-len3-up
listed_code-a-requires-in-len3-up c = listed_at _ 0 c.requires.1 (omega arith)

pub listed_code-b-requires-in-len3-up : goal.listed_code-b-requires-in-len3-up
listed_code-b-requires-in-len3-up c = listed_at _ 1 c.requires.1 (omega arith)

pub listed_code-c-requires : goal.listed_code-c-requires
listed_code-c-requires c = listed_at _ 2 c.requires.1 (omega arith)

pub put_three-requires-in-len3-up : goal.put_three-requires-in-len3-up
put_three-requires-in-len3-up c = (omega (arith, packed-length c.args.left.now), (small _ _ c.listed_code-a-in-len3-up.ensures, small _ _ c.listed_code-b-in-len3-up.ensures, small _ _ c.listed_code-c.ensures, omega arith))

pub bounds-out-at-in-len1 : goal.bounds-out-at-in-len1
bounds-out-at-in-len1 c = omega (arith, packed-length c.args.left.now)

pub returns-in-len1 : goal.returns-in-len1
returns-in-len1 c =
    let x = c.listed_code.result * 4 in
    rw (of_one c.args.left.now (omega arith) _ c.listed_code.ensures) (also (x ∷ []) 0 (c.args.at + 2) (omega arith) (also [] x (c.args.at + 1) refl (record { ends = sym (add-zero c.args.at); leaves = refl })))

pub returns-in-len2 : goal.returns-in-len2
returns-in-len2 c = rw (of_two c.args.left.now (omega arith) _ _ c.listed_code-a.ensures c.listed_code-b.ensures) c.put_three.ensures

pub returns-in-len3-up : goal.returns-in-len3-up
returns-in-len3-up c = rw (of_three c.args.left.now (omega arith) _ _ _ c.listed_code-a-in-len3-up.ensures c.listed_code-b-in-len3-up.ensures c.listed_code-c.ensures) c.put_three-in-len3-up.ensures

pub returns-in-empty : goal.returns-in-empty
returns-in-empty c = rw (of_none c.args.left.now (omega arith)) (record { ends = refl; leaves = refl })
