-- What framing and collecting answer, as C has it (RULES 'Structs for C').
-- Assumes nothing.
use Rattle.std.specs.Prelude.{◌≡◌, ℕ, cond, List, Result, eqb, leb, length}
use Rattle.refusals.specs.declared.Refusal.{Refusal}
use Rattle.collecting.specs.declared.Phase.{Phase}
use Rattle.collecting.specs.declared.Phase.TheVariants.{LeadIn, Open, Escape, BadEscape, TooLong}
use Rattle.collecting.specs.declared.Control.{Control}
use Rattle.collecting.specs.declared.Answer.{Answer}
use Rattle.collecting.specs.declared.Answer.TheVariants.{None, Accepted, Refused}
use Rattle.collecting.specs.declared.Fed.{Fed}
use Rattle.collecting.specs.Step.{phase_number, held}
use Rattle.collecting.specs.Stream.{is_answered, answer_number, message_length, position, Run, run}
use Rattle.refusals.specs.declared.Refusal.{Refusal}
use Rattle.recording.specs.Recording.{recorded, ReadRecording}
use Rattle.gdl90.specs.declared.FrameAnswer.{FrameAnswer}
use Rattle.gdl90.specs.declared.FeedControl.{FeedControl}
use Rattle.gdl90.specs.declared.FeedAnswer.{FeedAnswer}
use Rattle.gdl90.specs.declared.RecordingAnswer.{RecordingAnswer}
use Rattle.refusals.specs.Numbers.{number_in, count_in}

-- the number, and the bytes written, 0 with a refusal
abbrev pub frame_answer : Result ℕ Refusal → FrameAnswer
frame_answer f = record { number = number_in f; length = count_in f }

unfoldable pub phase_of : ℕ → Phase
phase_of n = cond (eqb n 0) LeadIn (cond (eqb n 1) Open (cond (eqb n 2) Escape (cond (eqb n 3) BadEscape TooLong)))

-- a phase over 4 is none: its state is taken as the fresh one, as one with a count over 438 is
unfoldable pub control_of : FeedControl → Control
control_of c = cond (leb c.phase 4) (record { count = c.count; stuffed = c.stuffed; phase = phase_of c.phase }) (record { count = 439; stuffed = 0; phase = LeadIn })

abbrev pub feed_answer : Fed → FeedAnswer
feed_answer f = record {
  control = record { count = f.control.count; stuffed = f.control.stuffed; phase = phase_number f.control.phase };
  taken = f.taken;
  answered = is_answered f.answer;
  number = answer_number f.answer;
  length = message_length f.answer;
  position = position f.answer;
}

abbrev pub ran_answer : Run → FeedAnswer
ran_answer r = feed_answer (record { control = r.last.state.control; taken = r.count; answer = r.last.answer })

-- the run of the bytes, with what is lent
abbrev pub feeding : FeedControl → List ℕ → List ℕ → List ℕ → Run
feeding c room m bytes = run (held (control_of c) room) m bytes

-- what C has of a run: the answer, and what the room and the message hold then
pub record Feeds (r : Run) (answer : FeedAnswer) (room m : List ℕ) : Type 0 where
  pub answers : answer ≡ ran_answer r
  pub leaves_room : room ≡ r.last.state.room
  pub leaves_message : m ≡ r.last.message

-- the answer in such a struct
unfoldable pub answer_in : FeedAnswer → Answer
answer_in f = cond f.answered (cond (eqb f.number 0) (Accepted f.length) (Refused f.number f.position)) None

-- the number, and how many entries a recording has, 0 with a refusal
abbrev pub recording_answer : Result ℕ Refusal → RecordingAnswer
recording_answer r = record { number = number_in r; entries = count_in r }

-- what C has of reading a recording: the answer, and what the list and the memory for messages hold then
pub record ReadsRecording (bs list messages : List ℕ) (answer : RecordingAnswer) (list_left messages_left : List ℕ) : Type 0 where
  pub answers : answer ≡ recording_answer (recorded bs (length list) (length messages))
  pub leaves : ReadRecording bs list messages (recorded bs (length list) (length messages)) list_left messages_left
