-- A report as a struct of numbers (RULES 'Structs for C'). A field that can have a mark has a number for it beside: 0, the field is a
-- number; 1, none; 2, over (of a climb, above); 3, below. With a mark the field is 0, and it is not looked at on the way back. Any other
-- number is no mark: the way back then gives the field a number that writing refuses with 8.
-- Assumes nothing.
use Rattle.std.specs.Prelude.{ℕ, cond, eqb, ℤ, pos, Option, Some, None}
use Rattle.units.specs.declared.PressureSteps.{PressureSteps}
use Rattle.message_types.specs.declared.Position.{Position}
use Rattle.message_types.specs.declared.TrackKind.{TrackKind}
use Rattle.message_types.specs.declared.TrackKind.TheVariants as track
use Rattle.message_types.specs.declared.Speed.{Speed}
use Rattle.message_types.specs.declared.Speed.TheVariants as speed
use Rattle.message_types.specs.declared.Climb.{Climb}
use Rattle.message_types.specs.declared.Climb.TheVariants as climb
use Rattle.message_types.specs.declared.Report.{Report}
use Rattle.c_structs.specs.Flat.{marked}
use Rattle.c_report.specs.declared.FlatReport.{FlatReport}

abbrev pub position_mark : Option Position → ℕ
position_mark (Some p) = 0
position_mark None = 1

abbrev pub latitude_of : Option Position → ℤ
latitude_of (Some p) = p.latitude
latitude_of None = pos 0

abbrev pub longitude_of : Option Position → ℤ
longitude_of (Some p) = p.longitude
longitude_of None = pos 0

abbrev pub position_from : ℕ → ℤ → ℤ → Option Position
position_from mark a o = marked mark (record { latitude = a; longitude = o }) (record { latitude = pos 4194305; longitude = pos 0 })

abbrev pub altitude_mark : Option PressureSteps → ℕ
altitude_mark (Some d) = 0
altitude_mark None = 1

abbrev pub altitude_steps : Option PressureSteps → PressureSteps
altitude_steps (Some d) = d
altitude_steps None = record { steps = 0 }

abbrev pub altitude_from : ℕ → PressureSteps → Option PressureSteps
altitude_from mark d = marked mark d (record { steps = 0xFFF })

-- 001 Table 9
abbrev pub track_number : TrackKind → ℕ
track_number track.NotValid = 0
track_number track.TrueTrack = 1
track_number track.MagneticHeading = 2
track_number track.TrueHeading = 3

-- of a number up to 3; writing a struct refuses any other with 8
unfoldable pub track_from : ℕ → TrackKind
track_from n = cond (eqb n 0) track.NotValid (cond (eqb n 1) track.TrueTrack (cond (eqb n 2) track.MagneticHeading track.TrueHeading))

abbrev pub speed_mark : Speed → ℕ
speed_mark (speed.Knots n) = 0
speed_mark speed.None = 1
speed_mark speed.Over = 2

abbrev pub speed_knots : Speed → ℕ
speed_knots (speed.Knots n) = n
speed_knots speed.None = 0
speed_knots speed.Over = 0

unfoldable pub speed_from : ℕ → ℕ → Speed
speed_from mark n =
    cond (eqb mark 0) (speed.Knots n) (cond (eqb mark 1) speed.None (cond (eqb mark 2) speed.Over (speed.Knots 0xFFF)))

abbrev pub climb_mark : Climb → ℕ
climb_mark (climb.Steps z) = 0
climb_mark climb.None = 1
climb_mark climb.Above = 2
climb_mark climb.Below = 3

abbrev pub climb_steps : Climb → ℤ
climb_steps (climb.Steps z) = z
climb_steps climb.None = pos 0
climb_steps climb.Above = pos 0
climb_steps climb.Below = pos 0

unfoldable pub climb_from : ℕ → ℤ → Climb
climb_from mark z =
    cond (eqb mark 0) (climb.Steps z)
    (cond (eqb mark 1) climb.None (cond (eqb mark 2) climb.Above (cond (eqb mark 3) climb.Below (climb.Steps (pos 510)))))

abbrev pub flat_report : Report → FlatReport
flat_report r = record {
  alert = r.alert;
  address_type = r.address_type;
  address = r.address;
  position_mark = position_mark r.position;
  latitude = latitude_of r.position;
  longitude = longitude_of r.position;
  altitude_mark = altitude_mark r.altitude;
  altitude = altitude_steps r.altitude;
  track_kind = track_number r.track_kind;
  extrapolated = r.extrapolated;
  airborne = r.airborne;
  integrity = r.integrity;
  accuracy = r.accuracy;
  speed_mark = speed_mark r.speed;
  speed = speed_knots r.speed;
  climb_mark = climb_mark r.climb;
  climb = climb_steps r.climb;
  track = r.track;
  emitter = r.emitter;
  call_sign = r.call_sign;
  priority = r.priority;
  spare = r.spare;
}

abbrev pub report_from : FlatReport → Report
report_from f = record {
  alert = f.alert;
  address_type = f.address_type;
  address = f.address;
  position = position_from f.position_mark f.latitude f.longitude;
  altitude = altitude_from f.altitude_mark f.altitude;
  track_kind = track_from f.track_kind;
  extrapolated = f.extrapolated;
  airborne = f.airborne;
  integrity = f.integrity;
  accuracy = f.accuracy;
  speed = speed_from f.speed_mark f.speed;
  climb = climb_from f.climb_mark f.climb;
  track = f.track;
  emitter = f.emitter;
  call_sign = f.call_sign;
  priority = f.priority;
  spare = f.spare;
}
