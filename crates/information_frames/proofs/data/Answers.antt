-- `information_frames::data` meets its contract: a frame that is found lies inside.
-- Assumes nothing.
use mathlib.Core.Path.{sym, ◌∙◌}
use native.Mathlib.Omega.{arith}
use Rattle.information_frames.proofs.Rows.{inside}
use Rattle.information_frames.proofs.data.Goals as goal

pub overflow_add-start : goal.overflow_add-start
overflow_add-start c =
    let i = inside _ _ _ (sym c.nth.ensures ∙ c.in-Ok.is) in
    omega arith

pub overflow_add-end : goal.overflow_add-end
overflow_add-end c =
    let i = inside _ _ _ (sym c.nth.ensures ∙ c.in-Ok.is) in
    omega arith

pub slice_bounds-result-end : goal.slice_bounds-result-end
slice_bounds-result-end c =
    let i = inside _ _ _ (sym c.nth.ensures ∙ c.in-Ok.is) in
    omega arith
