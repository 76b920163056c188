-- The listing of a byte stream (RULES 'Listing').
-- Assumes nothing.
use Rattle.std.specs.Prelude.{◌≡◌, ℕ, suc, ◌+◌, ◌-◌, ◌≤◌, Bool, cond, ◌&&◌, List, [], ◌∷◌, ◌++◌, eqb, ltb, leb, length, take, get_or}
use Rattle.numbers.specs.Lent.{Stored}
use Rattle.framing.specs.Stuffing.{flag}
use Rattle.collecting.specs.declared.Control.{Control}
use Rattle.collecting.specs.declared.Collector.{Collector}
use Rattle.collecting.specs.Step.{held, fresh, next, answer_to}
use Rattle.collecting.specs.Stream.{Reply, nothing, message, refused, reply_to, is_answered}
use Rattle.messages.specs.Message.{read_message}
use Rattle.listing.specs.declared.Lister.{Lister}
use Rattle.listing.specs.declared.Processed.{Processed}
use Rattle.listing.specs.Line.{Field, digits, dash, line}
use Rattle.refusals.specs.Numbers.{number_in}

-- as many bytes are listed at most
abbrev pub limit : ℕ
limit = 4294967295

-- a line has at most so many bytes: six fields, each of at most ten bytes and the byte behind it
abbrev pub longest : ℕ
longest = 66

-- the lister, and the room that is lent to collecting
pub record State : Type 0 where
  pub lister : Lister
  pub room : List ℕ

abbrev pub state : Lister → List ℕ → State
state l room = record { lister = l; room = room }

abbrev pub collector : State → Collector
collector s = held s.lister.control s.room

unfoldable pub opening : Lister
opening = record { control = fresh.control; taken = 0; lines = 0; lead = 0; after = 0 }

-- before the first byte
unfoldable pub start : State
start = state opening fresh.room

-- the line of an answer: its number, the offset of the first byte after the opening flag, the answer, the id and the message's length, the
-- position
unfoldable pub answer_line : Lister → ℕ → Field → Field → Field → List ℕ
answer_line l answer id len pos = line (digits (l.lines + 1) ∷ digits l.after ∷ digits answer ∷ id ∷ len ∷ pos ∷ [])

-- the answer is that of collecting, with its position, or of reading if collecting gave 0; nothing between two flags has no line
unfoldable pub reply_line : Lister → Reply → List ℕ
reply_line l nothing = []
reply_line l (message m) = answer_line l (number_in (read_message m)) (digits (get_or m 0 0)) (digits (length m)) dash
reply_line l (refused n pos) = answer_line l n dash dash (digits pos)

-- what a byte adds to the text
unfoldable pub text_of : State → ℕ → List ℕ
text_of s b = reply_line s.lister (reply_to (collector s) b)

-- the lister after a byte, with collecting's control after it and whether it was answered
unfoldable pub counted : Lister → ℕ → Control → Bool → Lister
counted l b control answered = record {
  control = control;
  taken = l.taken + 1;
  lines = cond answered (l.lines + 1) l.lines;
  lead = cond (eqb b flag) l.lead (cond (eqb l.lead l.taken) (l.taken + 1) l.lead);
  after = cond (eqb b flag) (l.taken + 1) (cond (eqb l.lead l.taken) (l.taken + 1) l.after);
}

-- the lister after n bytes that are no flags, with collecting's control after them
unfoldable pub passed : Lister → ℕ → Control → Lister
passed l n control = record {
  control = control;
  taken = l.taken + n;
  lines = l.lines;
  lead = cond (ltb 0 n && eqb l.lead l.taken) (l.taken + n) l.lead;
  after = cond (ltb 0 n && eqb l.lead l.taken) (l.taken + n) l.after;
}

-- the state after a byte
unfoldable pub advanced : State → ℕ → State
advanced s b = state (counted s.lister b (next (collector s) b).control (is_answered (answer_to (collector s) b))) (next (collector s) b).room

-- the state after bytes, and what they add to the text
unfoldable pub reached : State → List ℕ → State
reached s [] = s
reached s (b ∷ bs) = reached (advanced s b) bs

unfoldable pub texts : State → List ℕ → List ℕ
texts s [] = []
texts s (b ∷ bs) = text_of s b ++ texts (advanced s b) bs

-- "n at ans id len pos"
unfoldable pub header : List ℕ
header = 110 ∷ 32 ∷ 97 ∷ 116 ∷ 32 ∷ 97 ∷ 110 ∷ 115 ∷ 32 ∷ 105 ∷ 100 ∷ 32 ∷ 108 ∷ 101 ∷ 110 ∷ 32 ∷ 112 ∷ 111 ∷ 115 ∷ 10 ∷ []

-- "end", the bytes before the first flag, and those after the last one
unfoldable pub last_line : ℕ → ℕ → List ℕ
last_line lead trail = 101 ∷ 110 ∷ 100 ∷ 32 ∷ line (digits lead ∷ digits trail ∷ [])

abbrev pub ending : Lister → List ℕ
ending l = last_line l.lead (l.taken - l.after)

-- a flag has come: till then all bytes stand before the first
abbrev pub has_flag : Lister → Bool
has_flag l = ltb l.lead l.taken

-- the whole output for a whole input
unfoldable pub listing : List ℕ → List ℕ
listing bs = header ++ (texts start bs ++ ending (reached start bs).lister)

-- a lister that bytes within the limit can lead to
abbrev pub holds : Lister → Bool
holds l = leb l.taken limit && (leb l.lines l.taken && (leb l.lead l.taken && leb l.after l.taken))

pub record Sane (l : Lister) : Type 0 where
  pub few : l.taken ≤ limit
  pub lines_few : l.lines ≤ l.taken
  pub lead_few : l.lead ≤ l.taken
  pub after_few : l.after ≤ l.taken

-- any other is taken as that at the start
unfoldable pub steady : Lister → Lister
steady l = cond (holds l) l opening

unfoldable pub settled : State → State
settled s = cond (holds s.lister) s start

-- how many of the bytes are taken where the text has so much room: each that finds room for a line, within the limit
unfoldable pub taken_of : State → List ℕ → ℕ → ℕ
taken_of s [] room = 0
taken_of s (b ∷ bs) room =
    cond (ltb s.lister.taken limit) (cond (leb longest room) (suc (taken_of (advanced s b) bs (room - length (text_of s b)))) 0) 0

-- the first bytes of bs are taken from s, and their text stands at the front of out, which is then left so
pub record Processes (s : State) (bs out : List ℕ) (r : Processed) (room left : List ℕ) : Type 0 where
  pub count : r.taken ≡ taken_of s bs (length out)
  pub state : state r.lister room ≡ reached s (take r.taken bs)
  pub text : Stored out 0 (texts s (take r.taken bs)) r.written left
  pub within : r.taken ≤ length bs
  pub fits : r.written ≤ length left
  pub same : length left ≡ length out
