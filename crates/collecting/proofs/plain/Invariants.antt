-- `collecting::plain` meets its contract. The loop's invariant: so many are stored.
-- Assumes nothing.
use Prim.Native.Nat.{◌+◌}
use Rattle.collecting.specs.declared.Phase.TheVariants.{Open}
use Rattle.collecting.specs.Step.{state_in}
use Rattle.collecting.specs.Stretch.{Passed}
use Rattle.collecting.proofs.plain.Given as goal

abbrev pub invariant-loop-i : goal.invariant-loop-i
invariant-loop-i l = Passed (state_in Open l.fn.control.count l.fn.control.stuffed l.initial.room) l.bytes l.i (state_in Open (l.fn.control.count + l.i) (l.fn.control.stuffed + l.i) l.room)
