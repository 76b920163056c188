-- The heartbeat (001 §3.1, RULES 'Heartbeat'): id 0, seven bytes.
-- Assumes nothing.
use Rattle.std.specs.Prelude.{ℕ, ◌+◌, ◌*◌, ◌/◌, ◌%◌, ◌<◌, Bool, ◌&&◌, List, [], ◌∷◌, ltb, get_or, Result}
use Rattle.refusals.specs.declared.Refusal.{Refusal}
use Rattle.codec.specs.Reading.{reading}
use Rattle.units.specs.TimeOfDay.{is_time_of_day}
use Rattle.message_types.specs.declared.Heartbeat.{Heartbeat}

-- §3.1.3: bit 16 is bit 7 of status byte 2; the others are two bytes, low first
abbrev pub time_of : ℕ → ℕ → ℕ → ℕ
time_of status2 low high = status2 / 128 * 65536 + high * 256 + low

-- §3.1.4 c: the high two of ten bits are bits 1 and 0 of the first count byte
abbrev pub count_of : ℕ → ℕ → ℕ
count_of high low = high % 4 * 256 + low

-- the heartbeat that seven bytes hold
unfoldable pub heartbeat_in : List ℕ → Heartbeat
heartbeat_in m = record {
  status1 = get_or m 1 0;
  status2 = get_or m 2 0 % 128;
  time = time_of (get_or m 2 0) (get_or m 3 0) (get_or m 4 0);
  uplinks = get_or m 5 0 / 8;
  reserved = get_or m 5 0 / 4 % 2;
  basic_and_long = count_of (get_or m 5 0) (get_or m 6 0);
}

-- each field within its bits, and the time a time of day
abbrev pub good_heartbeat : Heartbeat → Bool
good_heartbeat h =
    ltb h.status2 128
    && (is_time_of_day h.time
    && (ltb h.uplinks 32 && (ltb h.reserved 2 && ltb h.basic_and_long 1024)))

abbrev pub heartbeat_bytes : Heartbeat → List ℕ
heartbeat_bytes h =
    0
    ∷ h.status1
    ∷ (h.time / 65536 * 128 + h.status2)
    ∷ (h.time % 256)
    ∷ (h.time / 256 % 256)
    ∷ (h.uplinks * 8 + h.reserved * 4 + h.basic_and_long / 256)
    ∷ (h.basic_and_long % 256)
    ∷ []

abbrev pub read_heartbeat : List ℕ → Result Heartbeat Refusal
read_heartbeat = reading 0 7 heartbeat_in good_heartbeat

-- each field within its bits
pub record HeartbeatBits (h : Heartbeat) : Type 0 where
  pub status2 : h.status2 < 128
  pub time : h.time < 131072
  pub uplinks : h.uplinks < 32
  pub reserved : h.reserved < 2
  pub counts : h.basic_and_long < 1024
