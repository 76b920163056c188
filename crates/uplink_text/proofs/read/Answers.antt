-- `uplink_text::read` meets its contract.
-- Assumes nothing.
use mathlib.Core.Path.{sym, ◌∙◌}
use Rattle.std.proofs.lemmas.Result.{err_from_is_err_and}
use Rattle.uplink_text.proofs.Laws.{part_read, refused_frame}
use Rattle.uplink_text.proofs.read.Goals as goal

pub returns-in_err-nth : goal.returns-in_err-nth
returns-in_err-nth c =
    let p = err_from_is_err_and c.from_residual.result c.from_residual.ensures.1 in
    rw (p.1, p.2) (refused_frame _ _ _ _ (sym c.nth.ensures ∙ c.in_err-nth.was))

pub returns : goal.returns
returns c = (part_read _ _ _ _ _ _ _ _ _ (sym c.nth.ensures ∙ c.in_ok-nth.was) c.data.ensures c.read.ensures).1
