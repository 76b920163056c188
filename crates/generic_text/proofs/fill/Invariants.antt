-- The loop's invariant in `generic_text::fill`: what is left is to store the byte as often as is left.
-- Assumes nothing.
use mathlib.Core.Path.{◌≡◌}
use Prim.Native.Nat.{◌+◌, ◌≤◌}
use lib.ListN.{length, replicate}
use Rattle.numbers.proofs.Storing.{Rest}
use Rattle.generic_text.proofs.fill.Given as goal

abbrev pub invariant-loop-left : goal.invariant-loop-left
invariant-loop-left l = (length l.out ≡ length l.initial.out) × (l.next + l.left ≤ length l.initial.out) × (l.left ≤ l.times) × Rest l.initial.out l.at (replicate l.times l.byte) l.out l.next (replicate l.left l.byte)

abbrev pub decreases-loop-left : goal.decreases-loop-left
decreases-loop-left l = l.left
