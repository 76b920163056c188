-- `recording::unstuff` meets its contract. The loop's invariant: `Unpacked`.
-- Assumes nothing.
use Prim.Native.Nat.{◌-◌}
use lib.ListN.{length}
use Rattle.recording.proofs.Unescaping.{Unpacked}
use Rattle.recording.proofs.unstuff.Given as goal

abbrev pub invariant-loop-taken : goal.invariant-loop-taken
invariant-loop-taken l = Unpacked l.part l.initial.room l.room l.taken l.count

abbrev pub decreases-loop-taken : goal.decreases-loop-taken
decreases-loop-taken l = length l.part - l.taken
