-- What is proved of the uplink message, besides that the code reads and writes it.
-- Assumes nothing.
use Rattle.std.specs.Prelude.{◌≡◌, true, ℕ, List, length, drop, get_or}
use Rattle.numbers.specs.Bytes.{AreBytes}
use Rattle.message_types.specs.declared.Uplink.{Uplink}
use Rattle.uplink.specs.Uplink.{uplink_in, good_uplink, uplink_bytes, payload_of}

-- a good value's bytes hold that value and the payload
abbrev pub UplinkWrittenRead : Type 0
UplinkWrittenRead =
    (u : Uplink) (payload : List ℕ) → good_uplink u ≡ true → length payload ≡ 432
    → (uplink_in (uplink_bytes u payload) ≡ u) × (payload_of (uplink_bytes u payload) ≡ payload)

-- nothing of a message is lost, good or not
abbrev pub UplinkReadWritten : Type 0
UplinkReadWritten =
    (m : List ℕ) → length m ≡ 436 → AreBytes m → get_or m 0 0 ≡ 7 → uplink_bytes (uplink_in m) (drop 4 m) ≡ m
