-- `recording::put_message` meets its contract. The loop's invariant: the bytes passed are stored.
-- Assumes nothing.
use Prim.Native.Nat.{◌+◌}
use lib.ListN.{take}
use Rattle.numbers.specs.Lent.{Stored}
use Rattle.recording.proofs.put_message.Given as goal

abbrev pub invariant-loop-i : goal.invariant-loop-i
invariant-loop-i l = Stored l.initial.messages l.n (take l.i l.message) (l.n + l.i) l.messages
