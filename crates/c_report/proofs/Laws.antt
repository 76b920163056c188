-- A report's fields, there and back.
-- Assumes nothing.
use mathlib.Core.Path.{◌≡◌, refl}
use Rattle.std.specs.Prelude.{Option, Some, None}
use Rattle.units.specs.declared.PressureSteps.{PressureSteps}
use Rattle.message_types.specs.declared.Position.{Position}
use Rattle.message_types.specs.declared.TrackKind.{TrackKind}
use Rattle.message_types.specs.declared.TrackKind.TheVariants as track
use Rattle.message_types.specs.declared.Speed.{Speed}
use Rattle.message_types.specs.declared.Speed.TheVariants as speed
use Rattle.message_types.specs.declared.Climb.{Climb}
use Rattle.message_types.specs.declared.Climb.TheVariants as climb
use Rattle.c_structs.specs.Flat.{marked}
use Rattle.c_report.specs.Flat.{position_mark, latitude_of, longitude_of, position_from}
use Rattle.c_report.specs.Flat.{altitude_mark, altitude_steps, altitude_from, track_number, track_from, speed_mark, speed_knots, speed_from, climb_mark, climb_steps, climb_from}
use Rattle.c_report.specs.Claims.{ReportThereAndBack}

positions : (x : Option Position) → position_from (position_mark x) (latitude_of x) (longitude_of x) ≡ x
unfolding marked
positions (Some p) = refl
positions None = refl

altitudes : (x : Option PressureSteps) → altitude_from (altitude_mark x) (altitude_steps x) ≡ x
unfolding marked
altitudes (Some d) = refl
altitudes None = refl

pub tracks : (x : TrackKind) → track_from (track_number x) ≡ x
unfolding track_from
tracks track.NotValid = refl
tracks track.TrueTrack = refl
tracks track.MagneticHeading = refl
tracks track.TrueHeading = refl

speeds : (x : Speed) → speed_from (speed_mark x) (speed_knots x) ≡ x
unfolding speed_from
speeds (speed.Knots n) = refl
speeds speed.None = refl
speeds speed.Over = refl

climbs : (x : Climb) → climb_from (climb_mark x) (climb_steps x) ≡ x
unfolding climb_from
climbs (climb.Steps z) = refl
climbs climb.None = refl
climbs climb.Above = refl
climbs climb.Below = refl

pub report_there_and_back : ReportThereAndBack
report_there_and_back x = simp (positions x.position, altitudes x.altitude, tracks x.track_kind, speeds x.speed, climbs x.climb)
