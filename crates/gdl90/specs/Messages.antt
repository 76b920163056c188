-- What naming the kind of a message and writing one kind answer, as C has it (RULES 'Structs for C'): the number, and the id or the length, which are zero with a refusal.
-- Assumes nothing.
use Rattle.std.specs.Prelude.{◌≡◌, ℕ, Bool, cond, ◌&&◌, List, eqb, leb, length, get_or, Result}
use Rattle.numbers.specs.Lent.{written}
use Rattle.refusals.specs.declared.Refusal.{Refusal}
use Rattle.codec.specs.Writing.{written_output, writing}
use Rattle.heartbeat.specs.Heartbeat.{good_heartbeat, heartbeat_bytes}
use Rattle.initialization.specs.Initialization.{good_initialization, initialization_bytes}
use Rattle.altitudes.specs.Height.{good_terrain, terrain_bytes}
use Rattle.altitudes.specs.Geometric.{good_geometric, geometric_bytes}
use Rattle.uplink.specs.Uplink.{uplink_bytes, writing_uplink}
use Rattle.message_types.specs.declared.Heartbeat.{Heartbeat}
use Rattle.message_types.specs.declared.Initialization.{Initialization}
use Rattle.message_types.specs.declared.Ownship.{Ownship}
use Rattle.message_types.specs.declared.Traffic.{Traffic}
use Rattle.report.specs.Bytes.{report_bytes, ownship_bytes, traffic_bytes}
use Rattle.report.specs.Reading.{good_report, is_report_id}
use Rattle.messages.specs.Message.{kind_in, kind_number}
use Rattle.gdl90.specs.declared.KindAnswer.{KindAnswer}
use Rattle.gdl90.specs.declared.WriteAnswer.{WriteAnswer}
use Rattle.c_report.specs.declared.FlatReport.{FlatReport}
use Rattle.c_structs.specs.declared.FlatUplink.{FlatUplink}
use Rattle.c_structs.specs.declared.FlatHeight.{FlatHeight}
use Rattle.c_structs.specs.declared.FlatGeometric.{FlatGeometric}
use Rattle.c_structs.specs.Flat.{uplink_from, terrain_from, geometric_from}
use Rattle.c_report.specs.Flat.{report_from}
use Rattle.refusals.specs.Numbers.{number_in, count_in}

-- which kind a message is: 6, 17, or its id, which is the first byte
abbrev pub kind_answer : List ℕ → KindAnswer
kind_answer m = record { number = kind_number (kind_in m); id = cond (eqb (kind_number (kind_in m)) 0) (get_or m 0 0) 0 }

abbrev pub write_answer : Result ℕ Refusal → WriteAnswer
write_answer w = record { number = number_in w; length = count_in w }

-- what a way of writing answers and leaves
pub record AnsweredBy (w : Result ℕ Refusal) (bytes out : List ℕ) (answer : WriteAnswer) (left : List ℕ) : Type 0 where
  pub answers : answer ≡ write_answer w
  pub leaves : left ≡ written (written_output w bytes) out

abbrev pub AnsweredWriting : Bool → List ℕ → List ℕ → WriteAnswer → List ℕ → Type 0
AnsweredWriting good bytes out answer left = AnsweredBy (writing good bytes (length out)) bytes out answer left

-- what the function for each kind answers and leaves
abbrev pub WritesHeartbeat : Heartbeat → List ℕ → WriteAnswer → List ℕ → Type 0
WritesHeartbeat h = AnsweredWriting (good_heartbeat h) (heartbeat_bytes h)

abbrev pub WritesInitialization : Initialization → List ℕ → WriteAnswer → List ℕ → Type 0
WritesInitialization i = AnsweredWriting (good_initialization i) (initialization_bytes i)

abbrev pub WritesUplink : FlatUplink → List ℕ → List ℕ → WriteAnswer → List ℕ → Type 0
WritesUplink u payload out = AnsweredBy (writing_uplink (uplink_from u) payload (length out)) (uplink_bytes (uplink_from u) payload) out

abbrev pub WritesHeight : FlatHeight → List ℕ → WriteAnswer → List ℕ → Type 0
WritesHeight h = AnsweredWriting (good_terrain (terrain_from h)) (terrain_bytes (terrain_from h))

abbrev pub WritesGeometric : FlatGeometric → List ℕ → WriteAnswer → List ℕ → Type 0
WritesGeometric g = AnsweredWriting (good_geometric (geometric_from g)) (geometric_bytes (geometric_from g))

abbrev pub ownship_from : FlatReport → Ownship
ownship_from f = record { report = report_from f }

abbrev pub traffic_from : FlatReport → Traffic
traffic_from f = record { report = report_from f }

-- a number that is no track kind is a field outside its range
abbrev pub good_flat_report : FlatReport → Bool
good_flat_report f = leb f.track_kind 3 && good_report (report_from f)

-- of the report's kind with this id
abbrev pub WritesReport : ℕ → FlatReport → List ℕ → WriteAnswer → List ℕ → Type 0
WritesReport id f =
    AnsweredWriting (leb f.track_kind 3 && (is_report_id id && good_report (report_from f))) (report_bytes id (report_from f))

abbrev pub WritesOwnship : FlatReport → List ℕ → WriteAnswer → List ℕ → Type 0
WritesOwnship f = AnsweredWriting (good_flat_report f) (ownship_bytes (ownship_from f))

abbrev pub WritesTraffic : FlatReport → List ℕ → WriteAnswer → List ℕ → Type 0
WritesTraffic f = AnsweredWriting (good_flat_report f) (traffic_bytes (traffic_from f))
