-- `collecting::close` meets its contract, by the phase and the count.
-- Assumes nothing.
use mathlib.Core.Path.{refl, ◌∙◌}
use Rattle.collecting.specs.declared.Phase.TheVariants.{LeadIn, Escape, BadEscape, TooLong}
use Rattle.collecting.specs.Step.{closed, shown}
use Rattle.collecting.proofs.Cases.{closed_at, closed_empty, closed_short, closed_long}
use Rattle.collecting.proofs.close.Goals as goal

pub returns-then-n-eq0 : goal.returns-then-n-eq0
unfolding shown
returns-then-n-eq0 c = (closed_empty c.args.control c.args.room.now c.in-Open.is c.if-n-eq0.true, refl)

pub returns-then-n-lt3 : goal.returns-then-n-lt3
unfolding shown
returns-then-n-lt3 c = (closed_short c.args.control c.args.room.now c.in-Open.is c.if-n-eq0.false c.if-n-lt3.true, refl)

pub returns-in-LeadIn : goal.returns-in-LeadIn
unfolding closed shown
returns-in-LeadIn c = (closed_at c.args.control c.args.room.now LeadIn c.in-LeadIn.is, refl)

pub returns-else-n-lt3 : goal.returns-else-n-lt3
returns-else-n-lt3 c =
    let a = c.args in
    (c.check.ensures.0 ∙ closed_long a.control a.room.now c.in-Open.is c.if-n-eq0.false c.if-n-lt3.false, c.check.ensures.1)

pub returns-in-Escape : goal.returns-in-Escape
unfolding closed shown
returns-in-Escape c = (closed_at c.args.control c.args.room.now Escape c.in-Escape.is, refl)

pub returns-in-BadEscape : goal.returns-in-BadEscape
unfolding closed shown
returns-in-BadEscape c = (closed_at c.args.control c.args.room.now BadEscape c.in-BadEscape.is, refl)

pub returns-in-TooLong : goal.returns-in-TooLong
unfolding closed shown
returns-in-TooLong c = (closed_at c.args.control c.args.room.now TooLong c.in-TooLong.is, refl)
