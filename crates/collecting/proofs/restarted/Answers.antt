-- `collecting::restarted` meets its contract.
-- Assumes nothing.
use mathlib.Core.Path.{◌∙◌}
use Rattle.collecting.proofs.Cases.{fresh_flag, fresh_other}
use Rattle.collecting.proofs.restarted.Goals as goal

pub returns-then-first-eq126 : goal.returns-then-first-eq126
returns-then-first-eq126 c = c.clear.ensures ∙ fresh_flag c.args.first c.if-first-eq126.true

pub returns : goal.returns
returns c = c.clear-2.ensures ∙ fresh_other c.args.first c.if-first-eq126.false
