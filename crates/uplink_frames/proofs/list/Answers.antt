-- `uplink_frames::list` meets its contract.
-- Assumes nothing.
use mathlib.Core.Path.{sym, ap, ◌∙◌}
use Rattle.std.proofs.lemmas.Result.{err_from_is_err_and}
use Rattle.information_frames.specs.Walk.{Frames}
use Rattle.information_frames.specs.Answers.{frame_list}
use Rattle.uplink_frames.proofs.list.Goals as goal

pub returns-in_err-payload_in : goal.returns-in_err-payload_in
unfolding frame_list
returns-in_err-payload_in c =
    let p = err_from_is_err_and c.from_residual.result c.from_residual.ensures.1 in
    rw (p.1, p.2, c.in_err-payload_in.ensures)

pub returns : goal.returns
returns c = c.list.ensures ∙ ap frame_list (sym c.in_ok-payload_in.ensures)
