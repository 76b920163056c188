-- What is proved of the texts of an uplink message (RULES 'Weather texts'), over the contracts of the calls that they pass through.
-- Assumes nothing.
use Rattle.std.specs.Prelude.{◌≡◌, ℕ, ◌+◌, Result, Ok, List, length, take}
use Rattle.numbers.specs.Lent.{behind}
use Rattle.refusals.specs.declared.Refusal.{Refusal}
use Rattle.uplink.specs.Uplink.{payload_start, payload_of}
use Rattle.information_frames.specs.declared.Frame.{Frame}
use Rattle.information_frames.specs.Walk.{listed, payload_frames}
use Rattle.information_frames.specs.Answers.{nth_frame, DataPart}
use Rattle.information_frames.specs.Adding.{Adds}
use Rattle.information_frames.specs.Contents.{new_frame}
use Rattle.uplink_frames.specs.Frames.{message_frames}
use Rattle.generic_text.specs.declared.Text as read
use Rattle.generic_text.specs.Product.{Text, decoded, decode}
use Rattle.generic_text.specs.Answers.{ReadText, WroteText}
use Rattle.uplink_text.specs.Texts.{text_in, message_text}

-- from an uplink message to its text: frame n's data, handed on as a part and read, are the text of frame n. Nothing is copied: the
-- part stands in the message's own memory, behind the payload's start, the payload's header of 8 bytes and the frame's own of 2
abbrev pub PartRead : Type 0
PartRead =
    (m part out left : List ℕ) (n : ℕ) (at place : ℕ × ℕ) (f : Frame) (answer : Result read.Text Refusal) → nth_frame (message_frames m) n ≡ Ok f
    → DataPart (nth_frame (message_frames m) n) (payload_of m) (behind (payload_start m) at) part place → ReadText (decode part) out answer left
    → (place ≡ behind (f.at + 10) (behind (payload_start m) at)) × ReadText (message_text m n) out answer left

-- and back: a text that was written, and added to a payload as a frame of type 0, is found behind the frames that were there, of that
-- type, and its data hold that text
abbrev pub AddedRead : Type 0
AddedRead =
    (t : Text) (out left p q : List ℕ) (n : ℕ) (fs : List Frame) (end : ℕ) → WroteText t out (Ok n) left → payload_frames p ≡ listed fs end
    → Adds p 0 (take n left) (Ok tt) q
    → (nth_frame (payload_frames q) (length fs) ≡ Ok (new_frame end 0 (take n left)))
    × (text_in q (nth_frame (payload_frames q) (length fs)) ≡ decoded t)
