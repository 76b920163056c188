-- `collecting::feed` meets its contract. The loop's invariant: nothing is answered yet, and the bytes that are left lead on to the whole run.
-- Assumes nothing.
use native.Mathlib.Omega.{arith}
use Rattle.collecting.proofs.Feeding.{leads_end}
use Rattle.collecting.proofs.feed.Goals as goal

pub returns : goal.returns
returns c = leads_end c.loop-i.invariant (omega arith)
