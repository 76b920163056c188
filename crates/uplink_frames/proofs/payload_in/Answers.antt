-- `uplink_frames::payload_in` meets its contract.
-- Assumes nothing.
use mathlib.Core.Path.{sym, ◌∙◌}
use native.Mathlib.Omega.{arith}
use Rattle.std.proofs.lemmas.Result.{err_from_is_err_and}
use Rattle.uplink.proofs.Uplinks.{sized}
use Rattle.uplink_frames.proofs.Payloads.{turned_away, walked}
use Rattle.uplink_frames.proofs.payload_in.Goals as goal

pub returns-in_err-read_uplink : goal.returns-in_err-read_uplink
returns-in_err-read_uplink c =
    let p = err_from_is_err_and c.from_residual.result c.from_residual.ensures.1 in
    rw (p.1, p.2) (turned_away _ (sym c.in_err-read_uplink.was ∙ c.read_uplink.ensures))

pub slice_bounds-result-count : goal.slice_bounds-result-count
slice_bounds-result-count c = omega (arith, sized _ (sym c.in_ok-read_uplink.was ∙ c.read_uplink.ensures))

pub slice_bounds-result-start : goal.slice_bounds-result-start
slice_bounds-result-start c = omega (arith, sized _ (sym c.in_ok-read_uplink.was ∙ c.read_uplink.ensures))

pub returns : goal.returns
returns c = walked _ (sym c.in_ok-read_uplink.was ∙ c.read_uplink.ensures)
