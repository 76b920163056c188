-- `generic_text::put_codes` meets its contract.
-- Assumes nothing.
use mathlib.Core.Path.{◌∙◌}
use native.Mathlib.Omega.{arith}
use Rattle.characters.proofs.Listed.{listed_at}
use Rattle.generic_text.proofs.Putting.{small, packed-length, of_more, behind_listed, last_room, fours_more, all_put}
use Rattle.generic_text.proofs.put_codes.Goals as goal

pub listed_code-a-requires : goal.listed_code-a-requires
listed_code-a-requires c = listed_at _ 0 c.loop-left.invariant.1.listed (omega arith)

pub listed_code-b-requires : goal.listed_code-b-requires
listed_code-b-requires c = listed_at _ 1 c.loop-left.invariant.1.listed (omega arith)

pub listed_code-c-requires : goal.listed_code-c-requires
listed_code-c-requires c = listed_at _ 2 c.loop-left.invariant.1.listed (omega arith)

pub listed_code-d-requires : goal.listed_code-d-requires
listed_code-d-requires c = listed_at _ 3 c.loop-left.invariant.1.listed (omega arith)

pub put_three-at-requires : goal.put_three-at-requires
put_three-at-requires c =
    let l = c.loop-left in (
      omega (arith, last_room l.invariant.1 _ c.requires.0, packed-length l.left.now, l.invariant.0),
      (small _ _ c.listed_code-a.ensures, small _ _ c.listed_code-b.ensures, small _ _ c.listed_code-c.ensures, small _ _ c.listed_code-d.ensures),
    )

pub loop-left-preserved : goal.loop-left-preserved
loop-left-preserved c =
    let l = c.loop-left in
    let more = of_more l.left.now (omega arith) _ _ _ _ c.listed_code-a.ensures c.listed_code-b.ensures c.listed_code-c.ensures c.listed_code-d.ensures in
    (c.put_three-at.auto.out ∙ l.invariant.0, fours_more l.invariant.1 _ _ _ _ more (behind_listed l.left.now (omega arith) l.invariant.1.listed) c.put_three-at.ensures)

pub returns : goal.returns
returns c = all_put c.loop-left.invariant.1 c.put_last.ensures
