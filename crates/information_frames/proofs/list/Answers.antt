-- `information_frames::list` meets its contract.
-- Assumes nothing.
use Rattle.std.proofs.lemmas.Result.{err_from_is_err_and}
use Rattle.information_frames.specs.Answers.{frame_list}
use Rattle.information_frames.proofs.Answering.{list_is, refused_is}
use Rattle.information_frames.proofs.list.Goals as goal

pub returns-in_err-scan : goal.returns-in_err-scan
unfolding frame_list
returns-in_err-scan c =
    let p = err_from_is_err_and c.from_residual.result c.from_residual.ensures.1 in
    rw (refused_is 0 _ c.in_err-scan.was c.scan.ensures, p.1, p.2)

pub returns : goal.returns
returns c = list_is 0 _ c.in_ok-scan.was c.scan.ensures
