-- `report::numbers_in` meets its contract, field by field.
-- Assumes nothing.
use mathlib.Core.Path.{sym, ap, ◌∙◌}
use Prim.Native.Nat.{ℕ, ◌/◌, ◌%◌}
use native.Mathlib.Omega.{arith}
use lib.Dec.{eqb}
use lib.ListN.{get_or}
use mir.Syntax.{w32}
use mir.Val.{to_z, of_z}
use lib.IntN.{ℤ}
use Rattle.units.proofs.Wide.{back32}
use Rattle.numbers.specs.Signed.{signed_in}
use Rattle.c_report.specs.Flat.{position_mark, altitude_mark, altitude_steps, speed_mark, speed_knots, climb_mark, climb_steps}
use Rattle.report.specs.Marks.{position_of, altitude_of, speed_of, climb_of}
use Rattle.report.specs.Bytes.{codes_in, report_in}
use Rattle.report.proofs.Marked.{kind_code, degrees_in, climb_fits}
use Rattle.report.proofs.numbers_in.Goals as goal

pub returns : goal.returns
unfolding report_in
returns c =
    let m = c.args.message.now in
    let codes = c.codes_in-codes.ensures in
    let e = codes_in m in
    let integrity = get_or m 13 0 / 16 in
    let degrees = degrees_in e.latitude e.longitude integrity in
    λ i. record {
      alert = get_or m 1 0 / 16;
      address_type = get_or m 1 0 % 16;
      address = c.three_at.ensures i;
      position_mark = (c.position_mark.ensures ∙ (λ j. position_mark (position_of (codes j).latitude (codes j).longitude integrity))) i;
      latitude = (back32 _ c.signed_in.type_inv ∙ c.signed_in.ensures ∙ (λ j. signed_in 0x800000 (codes j).latitude) ∙ sym degrees.0) i;
      longitude = (back32 _ c.signed_in-2.type_inv ∙ c.signed_in-2.ensures ∙ (λ j. signed_in 0x800000 (codes j).longitude) ∙ sym degrees.1) i;
      altitude_mark = ((λ j. (c.altitude_in-altitude_mark.ensures j).0) ∙ (λ j. altitude_mark (altitude_of (codes j).altitude))) i;
      altitude = ((λ j. (c.altitude_in-altitude_mark.ensures j).1) ∙ (λ j. altitude_steps (altitude_of (codes j).altitude))) i;
      track_kind = ((λ j. (codes j).kind) ∙ sym (kind_code e.kind (omega arith))) i;
      extrapolated = eqb (codes i).extrapolated 1;
      airborne = eqb (codes i).airborne 1;
      integrity = integrity;
      accuracy = get_or m 13 0 % 16;
      speed_mark = ((λ j. (c.speed_in-speed_mark.ensures j).0) ∙ (λ j. speed_mark (speed_of (codes j).speed))) i;
      speed = ((λ j. (c.speed_in-speed_mark.ensures j).1) ∙ (λ j. speed_knots (speed_of (codes j).speed))) i;
      climb_mark = ((λ j. (c.climb_in-climb_mark.ensures j).0) ∙ (λ j. climb_mark (climb_of (codes j).climb))) i;
      climb = (ap (λ (p : ℕ × ℤ). to_z w32 (of_z w32 p.1)) c.climb_in-climb_mark.ensures ∙ back32 _ (climb_fits _) ∙ (λ j. climb_steps (climb_of (codes j).climb))) i;
      track = get_or m 17 0;
      emitter = get_or m 18 0;
      call_sign = c.call_sign_in.ensures i;
      priority = get_or m 27 0 / 16;
      spare = get_or m 27 0 % 16;
    }
