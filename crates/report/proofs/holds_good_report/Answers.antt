-- `report::holds_good_report` meets its contract: the other ranges hold of whatever bytes.
-- Assumes nothing.
use mathlib.Core.Path.{sym, ap, ◌∙◌}
use mathlib.Core.Bool.{◌&&◌}
use Prim.Native.Nat.{ℕ, ◌/◌, ◌%◌}
use native.Mathlib.Omega.{arith}
use lib.Dec.{leb}
use lib.ListN.{get_or}
use mir.Syntax.{w32}
use mir.Val.{to_z, of_z}
use lib.IntN.{ℤ}
use Rattle.units.proofs.Wide.{back32}
use Rattle.numbers.specs.Signed.{signed_in}
use Rattle.c_report.specs.Flat.{climb_steps}
use Rattle.report.specs.Marks.{climb_of}
use Rattle.report.specs.Reading.{between, south_pole, north_pole, lowest_climb, highest_climb}
use Rattle.report.proofs.Good.{good_in}
use Rattle.report.proofs.Marked.{climb_fits}
use Rattle.report.proofs.holds_good_report.Goals as goal

pub returns : goal.returns
returns c =
    let m = c.args.message.now in
    let latitude =
    c.is_between.ensures
    ∙ ap (between south_pole north_pole) (back32 _ c.signed_in-latitude.type_inv ∙ c.signed_in-latitude.ensures ∙ ap (signed_in 0x800000) c.three_at.ensures) in
    let climb =
    c.is_between-2.ensures
    ∙ ap (between lowest_climb highest_climb) (ap (λ (p : ℕ × ℤ). to_z w32 (of_z w32 p.1)) c.climb_in-climb.ensures ∙ back32 _ (climb_fits _) ∙ ap (λ (v : ℕ). climb_steps (climb_of v)) c.low_at.ensures) in
    (λ i. latitude i && climb i && (leb (get_or m 13 0 / 16) 11 && leb (get_or m 13 0 % 16) 11)) ∙ sym (good_in m (λ i. omega (arith, c.fits-message i)))
