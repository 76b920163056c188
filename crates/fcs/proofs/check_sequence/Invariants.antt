-- The loop's invariant in `fcs::check_sequence`: dividing on from here, over the bytes that are left, gives the sequence.
-- Assumes nothing.
use Rattle.std.proofs.Common.{◌≡◌, ◌+◌, ◌*◌, ◌%◌, ◌<◌, length, drop}
use mathlib.Core.List.{foldl}
use Rattle.fcs.specs.Fcs.{step, bits, fcs}
use Rattle.fcs.proofs.check_sequence.Given as goal

abbrev pub invariant-loop-pair : goal.invariant-loop-pair
invariant-loop-pair l = record {
  small : l.r < 65536;
  rest : foldl step l.r (bits (drop (length l.message % 2 + 2 * l.pair-index) l.message)) ≡ fcs l.message;
}
