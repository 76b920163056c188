-- The information frames of an uplink message (RULES 'Uplink payloads').
-- Assumes nothing.
use Rattle.std.specs.Prelude.{ℕ, List, Result, Ok, Err}
use Rattle.refusals.specs.declared.Refusal.{Refusal}
use Rattle.message_types.specs.declared.Uplink.{Uplink}
use Rattle.uplink.specs.Uplink.{read_uplink, payload_of}
use Rattle.information_frames.specs.Walk.{Frames, refused, payload_frames}

-- those of the payload of a message that was read, or its refusal
abbrev pub frames_read : List ℕ → Result Uplink Refusal → Frames
frames_read m (Ok u) = payload_frames (payload_of m)
frames_read m (Err k) = refused k

-- refused as reading the message is; then as the walk over its payload is
unfoldable pub message_frames : List ℕ → Frames
message_frames m = frames_read m (read_uplink m)
