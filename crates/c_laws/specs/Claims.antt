-- Demand 2 (RULES 'Demands') over the functions that C and Rust call, and what they do with a retired id and an unknown mark.
-- Assumes nothing.
use Rattle.std.specs.Prelude.{◌≡◌, ℕ, ◌≤◌, ◌<◌, List, length, take, drop, get_or}
use Rattle.std.specs.Int.Signed.{mag}
use Rattle.numbers.specs.Bytes.{AreBytes}
use Rattle.numbers.specs.Lent.{written}
use Rattle.message_types.specs.declared.Heartbeat.{Heartbeat}
use Rattle.message_types.specs.declared.Initialization.{Initialization}
use Rattle.heartbeat.specs.Heartbeat.{read_heartbeat}
use Rattle.initialization.specs.Initialization.{read_initialization}
use Rattle.altitudes.specs.Height.{read_height}
use Rattle.altitudes.specs.Geometric.{read_geometric}
use Rattle.uplink.specs.Uplink.{read_uplink}
use Rattle.report.specs.Reading.{ownship_read, traffic_read}
use Rattle.c_structs.specs.declared.FlatUplink.{FlatUplink}
use Rattle.c_structs.specs.declared.FlatHeight.{FlatHeight}
use Rattle.c_structs.specs.declared.FlatGeometric.{FlatGeometric}
use Rattle.c_structs.specs.Answers.{heartbeat_answer, initialization_answer, uplink_answer, height_answer, geometric_answer}
use Rattle.c_report.specs.Answers.{report_answer}
use Rattle.c_report.specs.declared.FlatReport.{FlatReport}
use Rattle.messages.specs.Claims.{Retired}
use Rattle.gdl90.specs.declared.WriteAnswer.{WriteAnswer}
use Rattle.gdl90.specs.Messages.{kind_answer}
use Rattle.gdl90.specs.Messages.{WritesHeartbeat, WritesInitialization, WritesUplink, WritesHeight, WritesOwnship, WritesGeometric, WritesTraffic}
use Rattle.c_laws.specs.Zeroed.{zeroed_uplink, zeroed_height, zeroed_geometric, zeroed_report}

-- one kind, with its id: what its function for writing answers and leaves, the number and the value that its function for reading
-- answers, and a value with 0 in each field beside a mark
pub record RoundTrip (id : ℕ) (X : Type 0) (Typed : X → Type 0) (Writes : X → List ℕ → WriteAnswer → List ℕ → Type 0)
    (number : List ℕ → ℕ) (value : List ℕ → X) (zeroed : X → X) : Type 0 where
  -- `gdl90_kind` says that this function reads it
  pub named : (m : List ℕ) → number m ≡ 0 → kind_answer m ≡ record { number = 0; id = id }
  -- what has another id is answered 6, a retired one too
  pub others : (m : List ℕ) → (get_or m 0 0 ≡ id → ⊥) → number m ≡ 6
  -- what was written reads as that value, with 0 in each field beside a mark
  pub written_read : (x : X) (out left : List ℕ) (a : WriteAnswer) → Typed x → Writes x out a left → a.number ≡ 0
      → (number (take a.length left) ≡ 0) × (value (take a.length left) ≡ zeroed x)
  -- what was read, written again where there is room for it, is the same bytes
  pub read_written : (m out left : List ℕ) (a : WriteAnswer) → AreBytes m → number m ≡ 0 → length m ≤ length out → Writes (value m) out a left
      → (a ≡ record { number = 0; length = length m }) × (left ≡ written m out)

-- no condition: two kinds alone have a field whose range is its 16-bit type
abbrev pub Any : {X : Type 0} → X → Type 0
Any x = Unit {0}

-- an uplink's value goes with its payload, which is the message from its fifth byte on
pub record RoundTrips : Type 0 where
  pub heartbeat : RoundTrip 0 Heartbeat Any WritesHeartbeat (λ m. (heartbeat_answer (read_heartbeat m)).number) (λ m. (heartbeat_answer (read_heartbeat m)).heartbeat) (λ h. h)
  pub initialization :
      RoundTrip 2 Initialization Any WritesInitialization (λ m. (initialization_answer (read_initialization m)).number)
      (λ m. (initialization_answer (read_initialization m)).initialization) (λ i. i)
  pub uplink :
      RoundTrip 7 (FlatUplink × List ℕ) Any (λ x. WritesUplink x.0 x.1) (λ m. (uplink_answer (read_uplink m)).number)
      (λ m. ((uplink_answer (read_uplink m)).uplink, drop 4 m)) (λ x. (zeroed_uplink x.0, x.1))
  pub height :
      RoundTrip 9 FlatHeight (λ h. mag h.height.feet < 0x8000) WritesHeight (λ m. (height_answer (read_height m)).number)
      (λ m. (height_answer (read_height m)).height) zeroed_height
  pub ownship :
      RoundTrip 10 FlatReport Any WritesOwnship (λ m. (report_answer (ownship_read m)).number) (λ m. (report_answer (ownship_read m)).report) zeroed_report
  pub geometric :
      RoundTrip 11 FlatGeometric (λ g. mag g.altitude.steps < 0x8000) WritesGeometric (λ m. (geometric_answer (read_geometric m)).number)
      (λ m. (geometric_answer (read_geometric m)).geometric) zeroed_geometric
  pub traffic :
      RoundTrip 20 FlatReport Any WritesTraffic (λ m. (report_answer (traffic_read m)).number) (λ m. (report_answer (traffic_read m)).report) zeroed_report

-- `gdl90_kind` answers 17 to a retired id (RULES 'Retired ids'), of whatever length, and to nothing else
abbrev pub RetiredKind : Type 0
RetiredKind = (m : List ℕ) → (Retired m → kind_answer m ≡ record { number = 17; id = 0 }) × ((kind_answer m).number ≡ 17 → Retired m)

-- writing is refused with 8, and nothing is written
abbrev pub Refused8 : (List ℕ → WriteAnswer → List ℕ → Type 0) → Type 0
Refused8 Writes = (out left : List ℕ) (a : WriteAnswer) → Writes out a left → (a ≡ record { number = 8; length = 0 }) × (left ≡ out)

-- a report with a mark that its field has not, or a number that is no track kind
pub data UnknownIn (f : FlatReport) : Type 0 where
  position : 1 < f.position_mark → UnknownIn f
  altitude : 1 < f.altitude_mark → UnknownIn f
  track : 3 < f.track_kind → UnknownIn f
  speed : 2 < f.speed_mark → UnknownIn f
  climb : 3 < f.climb_mark → UnknownIn f

-- an unknown mark is refused with 8
pub record UnknownMarks : Type 0 where
  pub uplink : (f : FlatUplink) (payload : List ℕ) → length payload ≡ 432 → 1 < f.reception_mark → Refused8 (WritesUplink f payload)
  pub height : (f : FlatHeight) → 1 < f.height_mark → Refused8 (WritesHeight f)
  pub report : (f : FlatReport) → UnknownIn f → Refused8 (WritesOwnship f) × Refused8 (WritesTraffic f)
  pub geometric : (f : FlatGeometric) → 2 < f.merit_mark → Refused8 (WritesGeometric f)
