-- `generic_text::measure` meets its contract.
-- Assumes nothing.
use mathlib.Core.Path.{ap}
use lib.ListN.{length-replicate}
use Rattle.std.specs.Prelude.{Ok}
use Rattle.generic_text.proofs.Expanding.{run_passes, count_more}
use Rattle.generic_text.proofs.measure.Goals as goal

pub loop-rest-preserved-in-Some : goal.loop-rest-preserved-in-Some
loop-rest-preserved-in-Some c = count_more _ c.loop-rest.invariant _ 4 _ c.in-Some.ensures.1 c.in-Some.ensures.0 c.min-n.ensures

pub loop-rest-preserved : goal.loop-rest-preserved
loop-rest-preserved c = count_more _ c.loop-rest.invariant _ _ _ (length-replicate _ _) (run_passes (c.in-Some-2.run', c.in-Some-2.rest) c.in_ok-run.ensures (ap Ok c.in-Some-2.is)) c.min-n-in-Some-2.ensures
