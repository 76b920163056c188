-- `collecting::fill` meets its contract. The loop's invariant: the bytes passed are taken.
-- Assumes nothing.
use Prim.Native.Nat.{◌-◌}
use lib.ListN.{length}
use Rattle.collecting.specs.Step.{held}
use Rattle.collecting.specs.Stretch.{Passed}
use Rattle.collecting.proofs.fill.Given as goal

abbrev pub invariant-loop-n : goal.invariant-loop-n
invariant-loop-n l = Passed (held l.initial.c l.initial.room) l.bytes l.n (held l.c l.room)

abbrev pub decreases-loop-n : goal.decreases-loop-n
decreases-loop-n l = length l.bytes - l.n
