-- The structs for C as reading gives them (RULES 'Structs for C'): beside a mark a field is 0. In writing it is not looked at.
-- Assumes nothing.
use Rattle.std.specs.Prelude.{ℕ, cond, eqb, pos}
use Rattle.c_structs.specs.declared.FlatUplink.{FlatUplink}
use Rattle.c_structs.specs.declared.FlatHeight.{FlatHeight}
use Rattle.c_structs.specs.declared.FlatGeometric.{FlatGeometric}
use Rattle.c_report.specs.declared.FlatReport.{FlatReport}

-- the field beside mark 0, which says that it is a number; zero beside any other
abbrev pub beside : {A : Type 0} → ℕ → A → A → A
beside mark zero x = cond (eqb mark 0) x zero

abbrev pub zeroed_uplink : FlatUplink → FlatUplink
zeroed_uplink f = record { reception_mark = f.reception_mark; reception = beside f.reception_mark 0 f.reception }

abbrev pub zeroed_height : FlatHeight → FlatHeight
zeroed_height f = record { height_mark = f.height_mark; height = beside f.height_mark (record { feet = pos 0 }) f.height }

abbrev pub zeroed_geometric : FlatGeometric → FlatGeometric
zeroed_geometric f = record {
  altitude = f.altitude;
  warning = f.warning;
  merit_mark = f.merit_mark;
  merit = beside f.merit_mark 0 f.merit;
}

abbrev pub zeroed_report : FlatReport → FlatReport
zeroed_report f = record {
  alert = f.alert;
  address_type = f.address_type;
  address = f.address;
  position_mark = f.position_mark;
  latitude = beside f.position_mark (pos 0) f.latitude;
  longitude = beside f.position_mark (pos 0) f.longitude;
  altitude_mark = f.altitude_mark;
  altitude = beside f.altitude_mark (record { steps = 0 }) f.altitude;
  track_kind = f.track_kind;
  extrapolated = f.extrapolated;
  airborne = f.airborne;
  integrity = f.integrity;
  accuracy = f.accuracy;
  speed_mark = f.speed_mark;
  speed = beside f.speed_mark 0 f.speed;
  climb_mark = f.climb_mark;
  climb = beside f.climb_mark (pos 0) f.climb;
  track = f.track;
  emitter = f.emitter;
  call_sign = f.call_sign;
  priority = f.priority;
  spare = f.spare;
}
