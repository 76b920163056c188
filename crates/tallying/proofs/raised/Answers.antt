-- `tallying::raised` meets its contract, by the answer.
-- Assumes nothing.
use mathlib.Core.Path.{sym, ap, ◌∙◌}
use Rattle.tallying.specs.Tally.{tallied}
use Rattle.tallying.proofs.raised.Goals as goal

pub returns-in-None : goal.returns-in-None
unfolding tallied
returns-in-None c = ap (tallied c.args.tally) (sym c.in-None.is)

pub returns-in-Accepted : goal.returns-in-Accepted
unfolding tallied
returns-in-Accepted c = c.raised_at.ensures ∙ ap (tallied c.args.tally) (sym c.in-Accepted.is)

pub returns-in-Refused : goal.returns-in-Refused
unfolding tallied
returns-in-Refused c = c.raised_at-in-Refused.ensures ∙ ap (tallied c.args.tally) (sym c.in-Refused.is)
