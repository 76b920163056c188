-- What a recording is answered as a whole (RULES 'Recordings').
-- Assumes nothing.
use Rattle.std.specs.Prelude.{◌≡◌, ℕ, ◌/◌, Bool, cond, ◌||◌, List, [], ◌∷◌, ◌++◌, Result, Ok, Err, map, ltb, length}
use Rattle.numbers.specs.Lent.{written}
use Rattle.collecting.specs.Stream.{Reply, nothing, message, refused}
use Rattle.collecting.specs.Between.{reply_between}
use Rattle.refusals.specs.declared.Refusal.{Refusal}
use Rattle.refusals.specs.declared.Refusal.TheVariants.{NoRoom}
use Rattle.recording.specs.declared.Needed.{Needed}
use Rattle.recording.specs.Cut.{cut, between_flags}

-- what f makes of each reply, end to end
unfoldable pub end_to_end : {A : Type 0} → (Reply → List A) → List Reply → List A
end_to_end f [] = []
end_to_end f (r ∷ rs) = f r ++ end_to_end f rs

-- a reply where it is an answer, else nothing
abbrev pub if_answer : Reply → List Reply
if_answer nothing = []
if_answer (message m) = message m ∷ []
if_answer (refused n at) = refused n at ∷ []

-- the answers among replies, in their order
abbrev pub only_answers : List Reply → List Reply
only_answers rs = end_to_end if_answer rs

-- the answers to a recording: each part between two flags is answered by itself, and an empty one is not
unfoldable pub answers_between : List ℕ → List Reply
answers_between bs = only_answers (map reply_between (between_flags (cut bs)))

-- what f makes of each of them, end to end
abbrev pub each_answer : (Reply → List ℕ) → List ℕ → List ℕ
each_answer f bs = end_to_end f (answers_between bs)

-- three numbers: answer, position, message length
abbrev pub entry_of : Reply → List ℕ
entry_of nothing = []
entry_of (message m) = 0 ∷ 0 ∷ length m ∷ []
entry_of (refused n at) = n ∷ at ∷ 0 ∷ []

-- no bytes where there is no message
abbrev pub message_in : Reply → List ℕ
message_in nothing = []
message_in (message m) = m
message_in (refused n at) = []

-- how many entries a recording has, and how many bytes its messages have together
abbrev pub needed_by : List ℕ → Needed
needed_by bs = record { entries = length (answers_between bs); bytes = length (each_answer message_in bs) }

-- whether a list of so many numbers has places for fewer entries, three numbers each, or so many bytes are fewer than the messages have
abbrev pub is_short : List ℕ → ℕ → ℕ → Bool
is_short bs numbers bytes = ltb (numbers / 3) (needed_by bs).entries || ltb bytes (needed_by bs).bytes

-- 9 for fewer places than entries, or fewer bytes than the messages have; else how many entries there are
unfoldable pub recorded : List ℕ → ℕ → ℕ → Result ℕ Refusal
recorded bs numbers bytes = cond (is_short bs numbers bytes) (Err NoRoom) (Ok (needed_by bs).entries)

-- what each case writes, of each answer what f makes of it
abbrev pub recorded_output : (Reply → List ℕ) → Result ℕ Refusal → List ℕ → List ℕ
recorded_output f (Ok n) bs = each_answer f bs
recorded_output f (Err r) bs = []

-- what reading a recording answers, and what the list and the memory for messages hold then
pub record ReadRecording (bs list messages : List ℕ) (r : Result ℕ Refusal) (List-left messages-left : List ℕ) : Type 0 where
  pub answers : r ≡ recorded bs (length list) (length messages)
  pub leaves_list : List-left ≡ written (recorded_output entry_of r bs) list
  pub leaves_messages : messages-left ≡ written (recorded_output message_in r bs) messages
