-- `collecting::step` meets its contract.
-- Assumes nothing.
use mathlib.Core.Path.{sym, ◌∙◌}
use Rattle.collecting.specs.Step.{held}
use Rattle.collecting.proofs.Cases.{within_of, step_over, step_flag, step_inside}
use Rattle.collecting.proofs.step.Goals as goal

pub returns-then-is_over : goal.returns-then-is_over
returns-then-is_over c =
    let a = c.args in
    step_over (held a.control a.room.now) a.message.now a.byte (sym c.is_over.ensures ∙ c.if-is_over.true) _ c.restarted.ensures

pub returns-then-byte-eq126 : goal.returns-then-byte-eq126
returns-then-byte-eq126 c =
    let a = c.args in
    step_flag (held a.control a.room.now) a.message.now a.byte (within_of a.control (sym c.is_over.ensures ∙ c.if-is_over.false)) c.if-byte-eq126.true _ _ _ c.clear-open.ensures c.close-answer.ensures.0 c.close-answer.ensures.1

pub returns : goal.returns
returns c =
    let a = c.args in
    step_inside (held a.control a.room.now) a.message.now a.byte (within_of a.control (sym c.is_over.ensures ∙ c.if-is_over.false)) c.if-byte-eq126.false _ c.inside_frame-control.ensures
