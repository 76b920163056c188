-- `recording::answer_part` meets its contract.
-- Assumes nothing.
use native.Mathlib.Omega.{arith}
use mathlib.Core.Path.{◌≡◌, sym, subst}
use Prim.Native.Nat.{ℕ, ◌+◌, ◌-◌}
use lib.ListN.{take, drop, length-drop}
use Rattle.framing.specs.Stuffing.{Flagless}
use Rattle.collecting.specs.Stream.{reply, unflagged}
use Rattle.collecting.proofs.Filling.{unflagged_most, unflagged_flagless}
use Rattle.recording.proofs.Checking.{in_room, answered_part, closed_part, no_flag}
use Rattle.recording.proofs.answer_part.Goals as goal

pub returns-then-end-recording : goal.returns-then-end-recording
unfolding reply
returns-then-end-recording c =
    let a = c.args in
    let bs = drop (a.i + 1) a.recording.now in
    record {
      answers = record { same = no_flag bs (omega (arith, c.part_end-end.ensures, length-drop (a.i + 1) a.recording.now)); within = omega arith };
      ends = c.part_end-end.ensures;
      size = c.requires.1;
    }

pub slice_bounds-part-end : goal.slice_bounds-part-end
slice_bounds-part-end c =
    let a = c.args in
    omega (arith, c.part_end-end.ensures, unflagged_most (drop (a.i + 1) a.recording.now), length-drop (a.i + 1) a.recording.now)

pub unstuff-unstuffed-requires : goal.unstuff-unstuffed-requires
unstuff-unstuffed-requires c =
    let bs = drop (c.args.i + 1) c.args.recording.now in
    let n : c.part_end-end.result - (c.args.i + 1) ≡ unflagged bs = omega (arith, c.part_end-end.ensures) in
    (subst (λ (k : ℕ). Flagless (take k bs)) (sym n) (unflagged_flagless bs), c.requires.1)

pub check-answer-requires : goal.check-answer-requires
check-answer-requires c =
    let u = c.unstuff-unstuffed in
    in_room _ _ u.ensures.unstuffs _ u.array_long

pub returns : goal.returns
returns c =
    let a = c.args in
    let u = c.unstuff-unstuffed.ensures in
    closed_part a.recording.now a.i c.part_end-end.result _ _ c.requires.0 c.part_end-end.ensures (omega arith) c.unstuff-unstuffed.array_long
    (answered_part _ _ c.requires.1 u.output _ u.unstuffs _ c.check-answer.ensures)
