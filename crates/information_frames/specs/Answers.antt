-- What listing a payload's frames, and asking for one of them, answers (RULES 'Uplink payloads').
-- Assumes nothing.
use Rattle.std.specs.Prelude.{ℕ, ◌+◌, List, Option, Result, Ok, Err, ok_or, length, slice_get}
use Rattle.numbers.specs.Lent.{stretch, Part}
use Rattle.refusals.specs.declared.Refusal.{Refusal}
use Rattle.refusals.specs.declared.Refusal.TheVariants.{NoFrame}
use Rattle.refusals.specs.Numbers.{refusal_number}
use Rattle.information_frames.specs.declared.Frame.{Frame}
use Rattle.information_frames.specs.declared.FrameList.{FrameList}
use Rattle.information_frames.specs.declared.Walked.{Walked}
use Rattle.information_frames.specs.Walk.{Frames, listed, refused}

-- how many frames, and the list's end
unfoldable pub frame_list : Frames → Result FrameList Refusal
frame_list (listed fs end) = Ok (record { count = length fs; end = end })
frame_list (refused k) = Err k

-- 0 in each field, where there is no frame
abbrev pub none : Frame
none = record { at = 0; length = 0; reserved = 0; kind = 0 }

-- frame n, numbered from 0; `NoFrame` where there is none
unfoldable pub nth_frame : Frames → ℕ → Result Frame Refusal
nth_frame (listed fs end) n = ok_or (slice_get fs n) NoFrame
nth_frame (refused k) n = Err k

-- where in the payload a frame's data start, behind the payload's header of 8 bytes and the frame's own of 2; 0 beside a refusal
abbrev pub data_start : Result Frame Refusal → ℕ
data_start (Ok f) = f.at + 10
data_start (Err k) = 0

-- a frame's data
unfoldable pub data_in : List ℕ → Frame → List ℕ
data_in p f = stretch (f.at + 10) f.length p

-- the frame for each case of a frame asked for, 0 beside a refusal
abbrev pub found_frame : Result Frame Refusal → Frame
found_frame (Ok f) = f
found_frame (Err k) = none

-- the data of the frame that was asked for, in the payload's own memory; no bytes beside a refusal
abbrev pub DataPart : Result Frame Refusal → List ℕ → ℕ × ℕ → List ℕ → ℕ × ℕ → Type 0
DataPart found p at part place = Part (data_start found) (found_frame found).length p at part place

-- what one walk finds: count, end, and frame n, if there is one
abbrev pub walked : ℕ → ℕ → Option Frame → Walked
walked count end frame = record { list = record { count = count; end = end }; frame = frame }

unfoldable pub scanned : ℕ → Frames → Result Walked Refusal
scanned n (listed fs end) = Ok (walked (length fs) end (slice_get fs n))
scanned n (refused k) = Err k

-- the values for each case, 0 beside a refusal
abbrev pub list_count : Result FrameList Refusal → ℕ
list_count (Ok l) = l.count
list_count (Err k) = 0

abbrev pub list_end : Result FrameList Refusal → ℕ
list_end (Ok l) = l.end
list_end (Err k) = 0
