-- `collecting::within` meets its contract.
-- Assumes nothing.
use mathlib.Core.Path.{sym, ◌∙◌}
use Rattle.collecting.specs.Step.{held}
use Rattle.collecting.proofs.Cases.{within_of, taken_over, taken_within}
use Rattle.collecting.proofs.within.Goals as goal

pub returns-then-is_over : goal.returns-then-is_over
returns-then-is_over c =
    let a = c.args in
    c.clear.ensures ∙ sym (taken_over (held a.control a.room.now) (sym c.is_over.ensures ∙ c.if-is_over.true))

pub returns : goal.returns
returns c =
    let a = c.args in
    sym (taken_within (held a.control a.room.now) (within_of a.control (sym c.is_over.ensures ∙ c.if-is_over.false)))
