-- The loop's invariant in `framing::Writer::put_stuffed`: what is left is to store the bytes that are left, stuffed.
-- Assumes nothing.
use Rattle.std.proofs.Common.{◌≡◌, length, drop}
use Rattle.numbers.proofs.Storing.{Rest}
use Rattle.framing.specs.Stuffing.{stuff}
use Rattle.framing.proofs.Writer.put_stuffed.Given as goal

abbrev pub invariant-loop-b : goal.invariant-loop-b
invariant-loop-b l = record {
  same : l.self.out.ghost_name ≡ l.initial.self.out.ghost_name;
  length : length l.self.out.now ≡ length l.initial.self.out.now;
  rest : Rest l.initial.self.out.now l.initial.self.next (stuff l.bytes) l.self.out.now l.self.next (stuff (drop l.b-index l.bytes));
}
