-- `codec::put` meets its contract. The loop's invariant: storing the bytes that are left ends it.
-- Assumes nothing.
use mathlib.Core.Path.{◌≡◌}
use lib.ListN.{drop}
use lib.Seq.{sets}
use Rattle.codec.proofs.put.Given as goal

abbrev pub invariant-loop-i : goal.invariant-loop-i
invariant-loop-i l = sets l.out l.i (drop l.i l.bytes) ≡ sets l.initial.out 0 l.bytes
