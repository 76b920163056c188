-- `collecting::feed` meets its contract. The loop's invariant: nothing is answered yet, and the bytes that are left lead on to the whole run.
-- Assumes nothing.
use Prim.Native.Nat.{◌-◌}
use lib.ListN.{length}
use Rattle.collecting.specs.Step.{held}
use Rattle.collecting.specs.Stretch.{Leads}
use Rattle.collecting.proofs.Feeding.{unanswered}
use Rattle.collecting.proofs.feed.Given as goal

abbrev pub invariant-loop-i : goal.invariant-loop-i
invariant-loop-i l = Leads (held l.initial.c l.initial.room) l.initial.message l.bytes (unanswered l.i (held l.c l.room) l.message)

abbrev pub decreases-loop-i : goal.decreases-loop-i
decreases-loop-i l = length l.bytes - l.i
