-- `recording::write` meets its contract. The loop's invariant: what is left is to store what is left to be answered.
-- Assumes nothing.
use mathlib.Core.Path.{◌≡◌}
use Prim.Native.Nat.{◌≤◌, ◌-◌}
use lib.ListN.{length}
use Rattle.numbers.proofs.Storing.{Rest}
use Rattle.recording.specs.Recording.{end_to_end, each_answer, entry_of, message_in}
use Rattle.recording.proofs.Turns.{answers_from}
use Rattle.recording.proofs.write.Given as goal

abbrev pub invariant-loop-i : goal.invariant-loop-i
invariant-loop-i l =
    (l.i ≤ length l.recording) × (length l.list ≡ length l.initial.list) × (length l.messages ≡ length l.initial.messages) × (length l.room ≡ 438)
    × Rest l.initial.list 0 (each_answer entry_of l.recording) l.list l.n (end_to_end entry_of (answers_from l.recording l.i))
    × Rest l.initial.messages 0 (each_answer message_in l.recording) l.messages l.k (end_to_end message_in (answers_from l.recording l.i))

abbrev pub decreases-loop-i : goal.decreases-loop-i
decreases-loop-i l = length l.recording - l.i
