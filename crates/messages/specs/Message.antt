-- The seven kinds of message together (001 §3, Table 2; RULES 'Messages', 'Retired ids').
-- Assumes nothing.
use Rattle.std.specs.Prelude.{◌≡◌, ℕ, Bool, true, cond, List, [], ◌∷◌, eqb, length, get_or, Result, Ok, Err}
use Rattle.numbers.specs.Lent.{written}
use Rattle.refusals.specs.declared.Refusal.{Refusal}
use Rattle.refusals.specs.declared.Refusal.TheVariants.{OtherId, WrongLength, RetiredId}
use Rattle.codec.specs.Writing.{writing, written_output}
use Rattle.message_types.specs.declared.Message.{Message}
use Rattle.message_types.specs.declared.Message.TheVariants.{Heartbeat, Initialization, Uplink, Height, Ownship, Geometric, Traffic}
use Rattle.heartbeat.specs.Heartbeat.{good_heartbeat, heartbeat_bytes, read_heartbeat}
use Rattle.initialization.specs.Initialization.{good_initialization, initialization_bytes, read_initialization}
use Rattle.altitudes.specs.Height.{good_terrain, terrain_bytes, read_height}
use Rattle.altitudes.specs.Geometric.{good_geometric, geometric_bytes, read_geometric}
use Rattle.uplink.specs.Uplink.{good_uplink, uplink_bytes, read_uplink}
use Rattle.report.specs.Bytes.{ownship_bytes, traffic_bytes}
use Rattle.report.specs.Reading.{good_report, read_ownship, read_traffic}
use Rattle.messages.specs.declared.Kind.{Kind}
use Rattle.messages.specs.declared.Kind.TheVariants as kind

-- each kind's id; the ids of basic and long pass-through, 30 and 31 (001 §3.6), are retired
abbrev pub kind_of : ℕ → Kind
kind_of id =
    cond (eqb id 0) kind.Heartbeat
    (cond (eqb id 2) kind.Initialization
    (cond (eqb id 7) kind.Uplink
    (cond (eqb id 9) kind.Height
    (cond (eqb id 10) kind.Ownship
    (cond (eqb id 11) kind.Geometric
    (cond (eqb id 20) kind.Traffic
    (cond (eqb id 30) kind.Retired
    (cond (eqb id 31) kind.Retired kind.Unknown))))))))

-- an empty message has none
unfoldable pub kind_in : List ℕ → Kind
kind_in m = cond (eqb (length m) 0) kind.Unknown (kind_of (get_or m 0 0))

-- the number for each kind: 6 where it is none, 17 where it is retired
abbrev pub kind_number : Kind → ℕ
kind_number kind.Heartbeat = 0
kind_number kind.Initialization = 0
kind_number kind.Uplink = 0
kind_number kind.Height = 0
kind_number kind.Ownship = 0
kind_number kind.Geometric = 0
kind_number kind.Traffic = 0
kind_number kind.Retired = 17
kind_number kind.Unknown = 6

-- a kind's answer as that of a message
abbrev pub as_message : {X : Type 0} → (X → Message) → Result X Refusal → Result Message Refusal
as_message wrap (Ok x) = Ok (wrap x)
as_message wrap (Err refusal) = Err refusal

abbrev pub read_as : Kind → List ℕ → Result Message Refusal
read_as kind.Heartbeat m = as_message Heartbeat (read_heartbeat m)
read_as kind.Initialization m = as_message Initialization (read_initialization m)
read_as kind.Uplink m = as_message Uplink (read_uplink m)
read_as kind.Height m = as_message Height (read_height m)
read_as kind.Ownship m = as_message Ownship (read_ownship m)
read_as kind.Geometric m = as_message Geometric (read_geometric m)
read_as kind.Traffic m = as_message Traffic (read_traffic m)
read_as kind.Retired m = Err RetiredId
read_as kind.Unknown m = Err OtherId

-- 6 for an empty message or an id that is neither in the list nor retired; then 17 for a retired id, of whatever length; else as of the kind
unfoldable pub read_message : List ℕ → Result Message Refusal
read_message m = read_as (kind_in m) m

-- the value for each answer: a refusal has none
abbrev pub reading_value : Result Message Refusal → List Message
reading_value (Ok x) = x ∷ []
reading_value (Err refusal) = []

-- the bytes of a message; an uplink's payload is given beside it
abbrev pub message_bytes : Message → List ℕ → List ℕ
message_bytes (Heartbeat x) payload = heartbeat_bytes x
message_bytes (Initialization x) payload = initialization_bytes x
message_bytes (Uplink x) payload = uplink_bytes x payload
message_bytes (Height x) payload = terrain_bytes x
message_bytes (Ownship x) payload = ownship_bytes x
message_bytes (Geometric x) payload = geometric_bytes x
message_bytes (Traffic x) payload = traffic_bytes x

-- every field is within its bits and its range, and no mark is a plain number
abbrev pub good_message : Message → Bool
good_message (Heartbeat x) = good_heartbeat x
good_message (Initialization x) = good_initialization x
good_message (Uplink x) = good_uplink x
good_message (Height x) = good_terrain x
good_message (Ownship x) = good_report x.report
good_message (Geometric x) = good_geometric x
good_message (Traffic x) = good_report x.report

-- only an uplink has a payload beside it, of 432 bytes
abbrev pub good_payload : Message → List ℕ → Bool
good_payload (Heartbeat x) payload = true
good_payload (Initialization x) payload = true
good_payload (Uplink x) payload = eqb (length payload) 432
good_payload (Height x) payload = true
good_payload (Ownship x) payload = true
good_payload (Geometric x) payload = true
good_payload (Traffic x) payload = true

-- the payload that a message carries: of the other kinds none
abbrev pub carried : Message → List ℕ → List ℕ
carried (Heartbeat x) payload = []
carried (Initialization x) payload = []
carried (Uplink x) payload = payload
carried (Height x) payload = []
carried (Ownship x) payload = []
carried (Geometric x) payload = []
carried (Traffic x) payload = []

-- 7 for an uplink's payload, then 8, then 9
unfoldable pub writing_message : Message → List ℕ → ℕ → Result ℕ Refusal
writing_message x payload room = cond (good_payload x payload) (writing (good_message x) (message_bytes x payload) room) (Err WrongLength)

pub record WroteMessage (x : Message) (payload out : List ℕ) (answer : Result ℕ Refusal) (left : List ℕ) : Type 0 where
  pub answers : answer ≡ writing_message x payload (length out)
  pub leaves : left ≡ written (written_output answer (message_bytes x payload)) out
