-- Demand 2 (RULES 'Demands') for messages, over all seven kinds at once; and exactly which messages are retired.
-- Assumes nothing.
use Rattle.std.specs.Prelude.{◌≡◌, ℕ, ◌<◌, true, List, [], ◌∷◌, drop, Err}
use Rattle.std.specs.Int.Signed.{mag}
use Rattle.numbers.specs.Bytes.{AreBytes}
use Rattle.message_types.specs.declared.Message.{Message}
use Rattle.message_types.specs.declared.Message.TheVariants.{Heartbeat, Initialization, Uplink, Height, Ownship, Geometric, Traffic}
use Rattle.altitudes.specs.Claims.{TypedHeight}
use Rattle.refusals.specs.declared.Refusal.TheVariants.{RetiredId}
use Rattle.uplink.specs.Uplink.{payload_of}
use Rattle.messages.specs.Message.{message_bytes, good_message, good_payload, carried, read_message, reading_value}
use Rattle.refusals.specs.Numbers.{number_in}

-- the two signed fields whose range is their 16-bit type are of that type
abbrev pub Typed : Message → Type 0
Typed (Heartbeat x) = Unit {0}
Typed (Initialization x) = Unit {0}
Typed (Uplink x) = Unit {0}
Typed (Height x) = TypedHeight x.height
Typed (Ownship x) = Unit {0}
Typed (Geometric x) = mag x.altitude.steps < 0x8000
Typed (Traffic x) = Unit {0}

-- reading answers 0, with this value
abbrev pub Reads : List ℕ → Message → Type 0
Reads m x = (number_in (read_message m) ≡ 0) × (reading_value (read_message m) ≡ x ∷ [])

-- a typed message that writing accepts, written and read, is that message, and its payload stands in its place
abbrev pub WrittenRead : Type 0
WrittenRead =
    (x : Message) (payload : List ℕ) → Typed x → good_payload x payload ≡ true → good_message x ≡ true
    → Reads (message_bytes x payload) x × (payload_of (message_bytes x payload) ≡ carried x payload)

-- bytes that reading accepts, read and written, are the same bytes; an uplink's payload is the message from its fifth byte on
abbrev pub ReadWritten : Type 0
ReadWritten = (m : List ℕ) (x : Message) → AreBytes m → Reads m x → message_bytes x (drop 4 m) ≡ m

-- what is read can be written
abbrev pub ReadGood : Type 0
ReadGood =
    (m : List ℕ) (x : Message) → AreBytes m → Reads m x
    → (good_message x ≡ true) × (good_payload x (drop 4 m) ≡ true)

-- a message with a retired id (RULES 'Retired ids'), whatever stands behind it
pub data Retired : List ℕ → Type 0 where
  basic : (rest : List ℕ) → Retired (30 ∷ rest)
  long : (rest : List ℕ) → Retired (31 ∷ rest)

-- each is answered 17, and nothing else is
abbrev pub RetiredIs17 : Type 0
RetiredIs17 = (m : List ℕ) → (Retired m → read_message m ≡ Err RetiredId) × (number_in (read_message m) ≡ 17 → Retired m)
