-- The loop's invariant in `generic_text::put_codes`: what was stored are the bytes before those of the characters that are left.
-- Assumes nothing.
use mathlib.Core.Path.{◌≡◌}
use lib.ListN.{length}
use Rattle.generic_text.proofs.Putting.{PutFours}
use Rattle.generic_text.proofs.put_codes.Given as goal

abbrev pub invariant-loop-left : goal.invariant-loop-left
invariant-loop-left l = (length l.out ≡ length l.initial.out) × PutFours l.initial.out l.text l.left l.at l.out

abbrev pub decreases-loop-left : goal.decreases-loop-left
decreases-loop-left l = length l.left
