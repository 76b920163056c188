-- `recording::part_end` meets its contract.
-- Assumes nothing.
use native.Mathlib.Omega.{arith}
use mathlib.Core.Path.{◌≡◌, ap, ◌∙◌}
use lib.ListN.{drop, length-drop}
use Rattle.collecting.specs.Stream.{unflagged}
use Rattle.collecting.proofs.Filling.{unflagged_most, rest}
use Rattle.recording.proofs.part_end.Goals as goal

pub overflow_add-result : goal.overflow_add-result
overflow_add-result c =
    let a = c.args in
    let bs = drop a.start a.recording.now in
    let found : c.before_flag.result ≡ unflagged bs = c.before_flag.ensures ∙ ap unflagged (rest a.recording.now a.start) in
    omega (arith, found, unflagged_most bs, length-drop a.start a.recording.now)
