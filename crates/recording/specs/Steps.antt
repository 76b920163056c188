-- The steps that answer a part, as the code takes them (RULES 'Recordings').
-- Assumes nothing.
use Rattle.std.specs.Prelude.{◌≡◌, ℕ, ◌+◌, ◌≤◌, ◌<◌, cond, List, [], ◌∷◌, Result, Ok, Err, eqb, ltb, length, take, drop}
use Rattle.framing.specs.Stuffing.{escape, stuff, unstuffed, Unstuffed, byte_before, unstuff}
use Rattle.collecting.specs.declared.Answer.{Answer}
use Rattle.collecting.specs.Stream.{Reply, nothing, refused, reply, unflagged, is_answered, answer_number, message_length, position}
use Rattle.collecting.specs.Between.{whole, reply_between}
use Rattle.recording.specs.declared.Unescaped.{Unescaped}
use Rattle.recording.specs.declared.Broken.{Broken}
use Rattle.recording.specs.declared.Fault.{Fault}
use Rattle.recording.specs.declared.Fault.TheVariants.{BadEscape, CutEscape, TooLong}
use Rattle.recording.specs.declared.PartAnswer.{PartAnswer}

-- the number of each fault of stuffing
abbrev pub fault_number : Fault → ℕ
fault_number BadEscape = 1
fault_number CutEscape = 2
fault_number TooLong = 3

-- the byte of a part that stands at place i, without its escape: it was stuffed to those up to the next place, and what is left stands there
pub record TakesByte (part : List ℕ) (i : ℕ) (u : Unescaped) : Type 0 where
  pub moves : i < u.next
  pub ends : u.next ≤ length part
  pub left : unstuff (drop i part) ≡ byte_before u.byte (unstuff (drop u.next part))
  pub size : length (escape u.byte) + i ≡ u.next

-- no byte stands there: 1 is met with the two of the escape, 2 with all
pub record Breaks (part : List ℕ) (i : ℕ) (b : Broken) : Type 0 where
  pub same : unstuff (drop i part) ≡ unstuffed [] (fault_number b.fault)
  pub met : b.taken ≡ cond (eqb (fault_number b.fault) 1) (i + 2) (length part)

abbrev pub Unescapes : List ℕ → ℕ → Result Unescaped Broken → Type 0
Unescapes part i (Ok u) = TakesByte part i u
Unescapes part i (Err b) = Breaks part i b

-- the first of 1, 2 and 3 that is met, 0 for none: a 439th byte before the fault of an escape is 3; then that fault
abbrev pub first_fault : Unstuffed → ℕ
first_fault u = cond (ltb 438 (length u.bytes)) 3 u.fault

-- how many stuffed bytes were taken then: with 3 the 439 bytes, as they were stuffed; with 1 the bytes before the escape, as they were
-- stuffed, and the two of the escape; else all. No byte has two forms, so stuffing gives back the bytes that were taken
abbrev pub stuffed_taken : ℕ → Unstuffed → ℕ
stuffed_taken all u =
    cond (ltb 438 (length u.bytes)) (length (stuff (take 439 u.bytes))) (cond (eqb u.fault 1) (length (stuff u.bytes) + 2) all)

-- a fault, met with `at` stuffed bytes taken; without one, what the unstuffed bytes are answered
abbrev pub judged : ℕ → ℕ → List ℕ → Reply
judged fault at bs = cond (eqb fault 0) (whole at bs) (refused fault at)

-- the bytes of a part, unstuffed, as many as have room
abbrev pub part_bytes : List ℕ → List ℕ
part_bytes part = take 438 (unstuff part).bytes

-- unstuff: no fault, and so many bytes
pub record Whole (part : List ℕ) (n : ℕ) : Type 0 where
  pub none : first_fault (unstuff part) ≡ 0
  pub count : n ≡ length (part_bytes part)

-- the first of 1, 2 and 3 that is met, and how many bytes of the part were taken then
pub record Breaking (part : List ℕ) (b : Broken) : Type 0 where
  pub number : fault_number b.fault ≡ first_fault (unstuff part)
  pub met : b.taken ≡ stuffed_taken (length part) (unstuff part)

abbrev pub Unstuffs : List ℕ → Result ℕ Broken → Type 0
Unstuffs part (Ok n) = Whole part n
Unstuffs part (Err b) = Breaking part b

-- check: the fault, or what the bytes at the room's start are answered
abbrev pub checked_part : ℕ → List ℕ → Result ℕ Broken → Reply
checked_part all room (Ok n) = judged 0 all (take n room)
checked_part all room (Err b) = judged (fault_number b.fault) b.taken []

-- an answer is this reply, its message at the room's start
pub record IsReply (a : Answer) (room : List ℕ) (r : Reply) : Type 0 where
  pub same : reply a room ≡ r
  pub within : message_length a ≤ length room

-- what the bytes behind a flag are answered, up to the next one; nothing where no flag closes them
unfoldable pub reply_to_part : List ℕ → Reply
reply_to_part bs = cond (ltb (unflagged bs) (length bs)) (reply_between (take (unflagged bs) bs)) nothing

-- the part behind the flag at place i: its answer, and where it ends
pub record AnswersPart (recording : List ℕ) (i : ℕ) (p : PartAnswer) (room : List ℕ) : Type 0 where
  pub answers : IsReply p.answer room (reply_to_part (drop (i + 1) recording))
  pub ends : p.end ≡ i + 1 + unflagged (drop (i + 1) recording)
  pub size : length room ≡ 438

-- the entry of an answer
abbrev pub answer_entry : Answer → List ℕ
answer_entry a = cond (is_answered a) (answer_number a ∷ position a ∷ message_length a ∷ []) []
