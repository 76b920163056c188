-- `generic_text::expand` meets its contract.
-- Assumes nothing.
use mathlib.Core.Path.{sym, ◌∙◌}
use native.Mathlib.Omega.{arith}
use lib.ListN.{length-replicate}
use Rattle.numbers.proofs.Storing.{stored-length}
use Rattle.generic_text.proofs.Expanding.{four_elements, expand_more, run_passes, told, run_ends, expand_room, expand_end, no_fault}
use Rattle.generic_text.proofs.expand.Goals as goal

pub put_four-at-requires : goal.put_four-at-requires
put_four-at-requires c = omega (arith, expand_room _ c.loop-next.invariant.1 _ c.in-Some.ensures.0 c.requires, c.in-Some.ensures.1, c.loop-next.invariant.0)

pub loop-next-preserved-in-Some : goal.loop-next-preserved-in-Some
loop-next-preserved-in-Some c =
    let l = c.loop-next in
    let s = rw (← four_elements c.in-Some.next.0 c.in-Some.ensures.1) at c.put_four-at.ensures in
    (c.put_four-at.auto.out ∙ l.invariant.0, expand_more _ l.invariant.1 _ c.in-Some.ensures.0 s)

pub fill-at-requires : goal.fill-at-requires
fill-at-requires c =
    let l = c.loop-next in
    let h = run_passes (c.in-Some-unwrap_or.run', c.in-Some-unwrap_or.rest) c.next_run.ensures (told _ (sym c.unwrap_or.ensures ∙ c.in-Some-unwrap_or.is)) in
    omega (arith, expand_room _ l.invariant.1 _ h c.requires, length-replicate c.in-Some-unwrap_or.run'.times c.in-Some-unwrap_or.run'.byte, l.invariant.0)

pub loop-next-preserved : goal.loop-next-preserved
loop-next-preserved c =
    let l = c.loop-next in
    let h = run_passes (c.in-Some-unwrap_or.run', c.in-Some-unwrap_or.rest) c.next_run.ensures (told _ (sym c.unwrap_or.ensures ∙ c.in-Some-unwrap_or.is)) in
    (stored-length c.fill-at.ensures ∙ l.invariant.0, expand_more _ l.invariant.1 _ h c.fill-at.ensures)

pub returns-in_default-unwrap_or : goal.returns-in_default-unwrap_or
returns-in_default-unwrap_or c =
    let x = c.loop-next.invariant.1 in
    expand_end _ x c.requires (run_ends _ _ (no_fault _ x) c.next_run.ensures (sym c.unwrap_or.ensures ∙ c.in_default-unwrap_or.is))
