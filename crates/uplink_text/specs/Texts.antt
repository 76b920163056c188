-- The weather texts of an uplink message (RULES 'Weather texts').
-- Assumes nothing.
use Rattle.std.specs.Prelude.{ℕ, List, Result, Ok, Err}
use Rattle.refusals.specs.declared.Refusal.{Refusal}
use Rattle.uplink.specs.Uplink.{payload_of}
use Rattle.information_frames.specs.declared.Frame.{Frame}
use Rattle.information_frames.specs.Answers.{nth_frame, data_in}
use Rattle.uplink_frames.specs.Frames.{message_frames}
use Rattle.generic_text.specs.Product.{Decoded, refused, decode}

-- the text that a frame's data hold, or the refusal of the frame
abbrev pub text_in : List ℕ → Result Frame Refusal → Decoded
text_in p (Ok f) = decode (data_in p f)
text_in p (Err k) = refused k

-- the text of frame n of a message: refused as reading the message, as asking for the frame, and as reading a text
unfoldable pub message_text : List ℕ → ℕ → Decoded
message_text m n = text_in (payload_of m) (nth_frame (message_frames m) n)
