-- `recording::measure` meets its contract. The loop's invariant: what is counted, and what is left to count, make the whole.
-- Assumes nothing.
use mathlib.Core.Path.{◌≡◌}
use Prim.Native.Nat.{◌≤◌, ◌-◌, ◌+◌}
use lib.ListN.{length}
use Rattle.recording.specs.Recording.{end_to_end, answers_between, each_answer, message_in}
use Rattle.recording.proofs.Turns.{answers_from}
use Rattle.recording.proofs.measure.Given as goal

abbrev pub invariant-loop-i : goal.invariant-loop-i
invariant-loop-i l =
    (l.i ≤ length l.recording) × (length l.room ≡ 438) × (l.entries + length (answers_from l.recording l.i) ≡ length (answers_between l.recording))
    × (l.bytes + length (end_to_end message_in (answers_from l.recording l.i)) ≡ length (each_answer message_in l.recording))

abbrev pub decreases-loop-i : goal.decreases-loop-i
decreases-loop-i l = length l.recording - l.i
