-- The two round trips of a report.
-- Assumes nothing.
use mathlib.Core.Path.{◌≡◌, ap, ◌∙◌}
use mathlib.Core.List.{List}
use Prim.Native.Nat.{ℕ, ◌<◌}
use native.Mathlib.Omega.{arith}
use lib.Dec.{eqb}
use lib.ListN.{get_or}
use borrow.Author.Tests.{ltb-true, leb-true}
use Rattle.numbers.proofs.Every.{both}
use Rattle.numbers.proofs.Bytes.{byte_at}
use Rattle.c_report.specs.Flat.{track_from}
use Rattle.c_report.proofs.Laws.{tracks}
use Rattle.report.specs.Marks.{position_of, altitude_of, speed_of, climb_of}
use Rattle.report.specs.Bytes.{codes_in, codes_of, report_in, packed, report_bytes}
use Rattle.report.specs.Reading.{good_report}
use Rattle.report.specs.Claims.{ReportWrittenRead, ReportReadWritten}
use Rattle.report.proofs.Marked.{altitude_code, altitude_back, speed_code, speed_back, climb_code_lem, climb_back, kind_code, kind_fits, bit_code, bit_back, position_code, position_back}
use Rattle.report.proofs.Packing.{Fit, from_three, upper, lower, codes_back, fit_in, bytes_back}

-- the numbers that stand for the report in the bytes are those in the bytes
same_codes : (m : List ℕ) → Fit (codes_in m) → codes_of (report_in m) ≡ codes_in m
unfolding codes_of report_in
same_codes m f =
    let c = codes_in m in
    let p = position_code c.latitude c.longitude _ f.latitude_fits f.longitude_fits in
    λ i. record {
      latitude = p.0 i;
      longitude = p.1 i;
      altitude = altitude_code c.altitude i;
      kind = kind_code c.kind f.kind_fits i;
      extrapolated = bit_code c.extrapolated f.extrapolated_fits i;
      airborne = bit_code c.airborne f.airborne_fits i;
      speed = speed_code c.speed i;
      climb = climb_code_lem c.climb f.climb_fits i;
    }

pub read_written : ReportReadWritten
unfolding report_bytes
read_written id m long bytes e =
    let b : (i : ℕ) → get_or m i 0 < 256 = λ i. byte_at m i bytes in
    ap (packed id (report_in m)) (same_codes m (fit_in m b)) ∙ bytes_back m b id long e

pub written_read : ReportWrittenRead
unfolding good_report report_in report_bytes codes_of
written_read id r g =
    let w = both _ _ g in
    let v = both _ _ w.0 in
    let h = both _ _ v.0 in
    let d = both _ _ h.0 in
    let position = position_back r.position r.integrity d.0 in
    let altitude = altitude_back r.altitude d.1 in
    let extrapolated = bit_back r.extrapolated in
    let airborne = bit_back r.airborne in
    let speed = speed_back r.speed h.1 in
    let climb = climb_back r.climb v.1 in
    let spare = both _ _ w.1 in
    let priority = both _ _ spare.0 in
    let address = both _ _ priority.0 in
    let type = both _ _ address.0 in
    let alert = both _ _ type.0 in
    let accuracy = both _ _ alert.0 in
    let integrity : r.integrity < 16 = omega (arith, leb-true r.integrity 11 accuracy.0) in
    let accurate : r.accuracy < 16 = omega (arith, leb-true r.accuracy 11 accuracy.1) in
    let i' = upper r.integrity r.accuracy integrity in
    let codes : codes_in (packed id r (codes_of r)) ≡ codes_of r = codes_back id r (codes_of r) (record {
      latitude_fits = position.1;
      longitude_fits = position.2;
      altitude_fits = altitude.1;
      kind_fits = kind_fits r.track_kind;
      extrapolated_fits = extrapolated.1;
      airborne_fits = airborne.1;
      speed_fits = speed.1;
      climb_fits = climb.1;
    }) in
    λ i. record {
      alert = upper r.alert r.address_type (ltb-true _ _ alert.1) i;
      address_type = lower r.alert r.address_type (ltb-true _ _ type.1) i;
      address = from_three r.address (ltb-true _ _ address.1) i;
      position = ((λ j. position_of (codes j).latitude (codes j).longitude (i' j)) ∙ position.0) i;
      altitude = ((λ j. altitude_of (codes j).altitude) ∙ altitude.0) i;
      track_kind = ((λ j. track_from (codes j).kind) ∙ tracks r.track_kind) i;
      extrapolated = ((λ j. eqb (codes j).extrapolated 1) ∙ extrapolated.0) i;
      airborne = ((λ j. eqb (codes j).airborne 1) ∙ airborne.0) i;
      integrity = i' i;
      accuracy = lower r.integrity r.accuracy accurate i;
      speed = ((λ j. speed_of (codes j).speed) ∙ speed.0) i;
      climb = ((λ j. climb_of (codes j).climb) ∙ climb.0) i;
      track = r.track;
      emitter = r.emitter;
      call_sign = r.call_sign;
      priority = upper r.priority r.spare (ltb-true _ _ priority.1) i;
      spare = lower r.priority r.spare (ltb-true _ _ spare.1) i;
    }
