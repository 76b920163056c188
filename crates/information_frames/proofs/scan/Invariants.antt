-- The loop's invariant in `information_frames::scan`: the list is that of the frames passed and then those of the rest.
-- Assumes nothing.
use Prim.Native.Nat.{◌-◌}
use Rattle.information_frames.proofs.Scanning.{Reached}
use Rattle.information_frames.proofs.scan.Given as goal

abbrev pub invariant-loop-list : goal.invariant-loop-list
invariant-loop-list l = Reached l.payload l.n l.list.end l.list.count l.frame

abbrev pub decreases-loop-list : goal.decreases-loop-list
decreases-loop-list l = 424 - l.list.end
