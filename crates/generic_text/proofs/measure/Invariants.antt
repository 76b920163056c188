-- The loop's invariant in `generic_text::measure`: the bytes passed are counted, and the text that is left is behind them.
-- Assumes nothing.
use lib.ListN.{length}
use Rattle.generic_text.specs.Codes.{codes_left}
use Rattle.generic_text.proofs.Expanding.{Counted}
use Rattle.generic_text.proofs.measure.Given as goal

abbrev pub invariant-loop-rest : goal.invariant-loop-rest
invariant-loop-rest l = Counted (codes_left l.initial.codes) l.room (codes_left l.codes) l.n

abbrev pub decreases-loop-rest : goal.decreases-loop-rest
decreases-loop-rest l = length (codes_left l.codes)
