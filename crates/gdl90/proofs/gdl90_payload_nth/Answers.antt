-- `gdl90::gdl90_payload_nth` meets its contract: what `information_frames::nth` answers.
-- Assumes nothing.
use mathlib.Core.Path.{sym, ◌∙◌}
use native.Mathlib.Omega.{arith}
use Rattle.information_frames.proofs.Rows.{inside}
use Rattle.gdl90.proofs.gdl90_payload_nth.Goals as goal

pub overflow_add-result : goal.overflow_add-result
overflow_add-result c =
    let i = inside _ _ _ (sym c.nth.ensures ∙ c.in-Ok.is) in
    omega arith
