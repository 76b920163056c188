-- The loop's invariant in `generic_text::expand`: what is left is to store the text that is left.
-- Assumes nothing.
use mathlib.Core.Path.{◌≡◌}
use lib.ListN.{length}
use Rattle.generic_text.specs.Codes.{codes_left}
use Rattle.generic_text.proofs.Expanding.{Expanded}
use Rattle.generic_text.proofs.expand.Given as goal

abbrev pub invariant-loop-next : goal.invariant-loop-next
invariant-loop-next l = (length l.out ≡ length l.initial.out) × Expanded (codes_left l.initial.codes) l.initial.out l.out (codes_left l.codes) l.at

abbrev pub decreases-loop-next : goal.decreases-loop-next
decreases-loop-next l = length (codes_left l.codes)
