-- What reading a message answers a caller that knows no enums (RULES 'Structs for C'): the number, and the value, which is all zero with
-- a refusal.
-- Assumes nothing.
use Rattle.std.specs.Prelude.{false, pos, Result, Ok, Err}
use Rattle.refusals.specs.declared.Refusal.{Refusal}
use Rattle.refusals.specs.Numbers.{refusal_number}
use Rattle.message_types.specs.declared.Heartbeat.{Heartbeat}
use Rattle.message_types.specs.declared.Initialization.{Initialization}
use Rattle.message_types.specs.declared.Uplink.{Uplink}
use Rattle.message_types.specs.declared.HeightAboveTerrain.{HeightAboveTerrain}
use Rattle.message_types.specs.declared.GeometricAltitude.{GeometricAltitude}
use Rattle.c_structs.specs.declared.HeartbeatRead.{HeartbeatRead}
use Rattle.c_structs.specs.declared.InitializationRead.{InitializationRead}
use Rattle.c_structs.specs.declared.FlatUplinkRead.{FlatUplinkRead}
use Rattle.c_structs.specs.declared.FlatHeightRead.{FlatHeightRead}
use Rattle.c_structs.specs.declared.FlatGeometricRead.{FlatGeometricRead}
use Rattle.c_structs.specs.Flat.{flat_uplink, flat_height, flat_geometric}

abbrev pub heartbeat_answer : Result Heartbeat Refusal → HeartbeatRead
heartbeat_answer (Ok h) = record { number = 0; heartbeat = h }
heartbeat_answer (Err refusal) = record {
  number = refusal_number refusal;
  heartbeat = record { status1 = 0; status2 = 0; time = 0; uplinks = 0; reserved = 0; basic_and_long = 0 };
}

abbrev pub initialization_answer : Result Initialization Refusal → InitializationRead
initialization_answer (Ok i) = record { number = 0; initialization = i }
initialization_answer (Err refusal) = record { number = refusal_number refusal; initialization = record { first = 0; second = 0 } }

abbrev pub uplink_answer : Result Uplink Refusal → FlatUplinkRead
uplink_answer (Ok u) = record { number = 0; uplink = flat_uplink u }
uplink_answer (Err refusal) = record { number = refusal_number refusal; uplink = record { reception_mark = 0; reception = 0 } }

abbrev pub height_answer : Result HeightAboveTerrain Refusal → FlatHeightRead
height_answer (Ok h) = record { number = 0; height = flat_height h }
height_answer (Err refusal) = record {
  number = refusal_number refusal;
  height = record { height_mark = 0; height = record { feet = pos 0 } };
}

abbrev pub geometric_answer : Result GeometricAltitude Refusal → FlatGeometricRead
geometric_answer (Ok g) = record { number = 0; geometric = flat_geometric g }
geometric_answer (Err refusal) = record {
  number = refusal_number refusal;
  geometric = record { altitude = record { steps = pos 0 }; warning = false; merit_mark = 0; merit = 0 };
}
