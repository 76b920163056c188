-- What reading a report answers a caller that knows no enums (RULES 'Structs for C'): the number, and the report, which is all zero with
-- a refusal.
-- Assumes nothing.
use Rattle.std.specs.Prelude.{false, pos, Result, Ok, Err}
use Rattle.refusals.specs.declared.Refusal.{Refusal}
use Rattle.refusals.specs.Numbers.{refusal_number}
use Rattle.c_report.specs.declared.FlatReport.{FlatReport}
use Rattle.c_report.specs.declared.FlatReportRead.{FlatReportRead}

abbrev pub zero_report : FlatReport
zero_report = record {
  alert = 0;
  address_type = 0;
  address = 0;
  position_mark = 0;
  latitude = pos 0;
  longitude = pos 0;
  altitude_mark = 0;
  altitude = record { steps = 0 };
  track_kind = 0;
  extrapolated = false;
  airborne = false;
  integrity = 0;
  accuracy = 0;
  speed_mark = 0;
  speed = 0;
  climb_mark = 0;
  climb = pos 0;
  track = 0;
  emitter = 0;
  call_sign = record { 0 = 0; 1 = 0; 2 = 0; 3 = 0; 4 = 0; 5 = 0; 6 = 0; 7 = 0 };
  priority = 0;
  spare = 0;
}

abbrev pub report_answer : Result FlatReport Refusal → FlatReportRead
report_answer (Ok report) = record { number = 0; report = report }
report_answer (Err refusal) = record { number = refusal_number refusal; report = zero_report }
