-- `information_frames::nth` meets its contract.
-- Assumes nothing.
use mathlib.Core.Path.{◌∙◌}
use Rattle.std.proofs.lemmas.Result.{err_from_is_err_and}
use Rattle.information_frames.specs.Answers.{nth_frame}
use Rattle.information_frames.proofs.Answering.{frame_is, refused_is}
use Rattle.information_frames.proofs.nth.Goals as goal

pub returns-in_err-scan : goal.returns-in_err-scan
unfolding nth_frame
returns-in_err-scan c =
    let p = err_from_is_err_and c.from_residual.result c.from_residual.ensures.1 in
    rw (refused_is _ _ c.in_err-scan.was c.scan.ensures, p.1, p.2)

pub returns : goal.returns
returns c = c.ok_or.ensures.value ∙ frame_is _ _ c.in_ok-scan.was c.scan.ensures
