-- `uplink_frames::nth` meets its contract.
-- Assumes nothing.
use mathlib.Core.Path.{sym, ap, ◌∙◌}
use Rattle.std.proofs.lemmas.Result.{err_from_is_err_and}
use Rattle.information_frames.specs.Walk.{Frames}
use Rattle.information_frames.specs.Answers.{nth_frame}
use Rattle.uplink_frames.proofs.nth.Goals as goal

pub returns-in_err-payload_in : goal.returns-in_err-payload_in
unfolding nth_frame
returns-in_err-payload_in c =
    let p = err_from_is_err_and c.from_residual.result c.from_residual.ensures.1 in
    rw (p.1, p.2, c.in_err-payload_in.ensures)

pub returns : goal.returns
returns c = c.nth.ensures ∙ ap (λ (fs : Frames). nth_frame fs c.args.n) (sym c.in_ok-payload_in.ensures)
