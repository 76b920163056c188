-- What is proved of the heartbeat (RULES 'Heartbeat', 'Messages'), besides that the code reads and writes it.
-- Assumes nothing.
use Rattle.std.specs.Prelude.{◌≡◌, true, cond, ℕ, List, length, get_or, Ok, Err}
use Rattle.numbers.specs.Bytes.{AreBytes}
use Rattle.refusals.specs.declared.Refusal.TheVariants.{BadField}
use Rattle.codec.specs.Reading.{fit}
use Rattle.units.specs.TimeOfDay.{is_time_of_day}
use Rattle.message_types.specs.declared.Heartbeat.{Heartbeat}
use Rattle.heartbeat.specs.Heartbeat.{heartbeat_in, good_heartbeat, heartbeat_bytes, read_heartbeat}

-- a good value's bytes hold that value
abbrev pub HeartbeatWrittenRead : Type 0
HeartbeatWrittenRead = (h : Heartbeat) → good_heartbeat h ≡ true → heartbeat_in (heartbeat_bytes h) ≡ h

-- nothing of a message is lost, good or not
abbrev pub HeartbeatReadWritten : Type 0
HeartbeatReadWritten =
    (m : List ℕ) → length m ≡ 7 → AreBytes m → get_or m 0 0 ≡ 0 → heartbeat_bytes (heartbeat_in m) ≡ m

-- of what has the id and the length, 8 is given exactly for a time behind the last second of a day
abbrev pub LateIs8 : Type 0
LateIs8 =
    (m : List ℕ) → AreBytes m → fit 0 7 m ≡ Ok m
    → read_heartbeat m ≡ cond (is_time_of_day (heartbeat_in m).time) (Ok (heartbeat_in m)) (Err BadField)
