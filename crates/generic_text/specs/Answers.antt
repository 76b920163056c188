-- What reading and writing a text answer (RULES 'Weather texts'), and what the lent output then holds.
-- Assumes nothing.
use Rattle.std.specs.Prelude.{◌≡◌, ℕ, cond, List, [], Result, Ok, Err, leb, length}
use Rattle.numbers.specs.Lent.{written}
use Rattle.refusals.specs.declared.Refusal.{Refusal}
use Rattle.refusals.specs.declared.Refusal.TheVariants.{BadField, NoRoom, NoCharacter}
use Rattle.codec.specs.Writing.{written_output}
use Rattle.characters.specs.Characters.{are_listed}
use Rattle.generic_text.specs.declared.Text.{Text}
use Rattle.generic_text.specs.Product as spec

-- a text of so many bytes, and what its header carries
abbrev pub text_of : ℕ → ℕ → ℕ → ℕ → Text
text_of h m p n = record { hours = h; minutes = m; padding = p; length = n }

-- `NoHeader`, `NoText`, `NoCharacter`; then `NoRoom` exactly when the output, of `room` bytes, is shorter than the text with its tabs expanded
unfoldable pub text_reading : spec.Decoded → ℕ → Result Text Refusal
text_reading (spec.decoded t) room =
    cond (leb (length t.characters) room) (Ok (text_of t.hours t.minutes t.padding (length t.characters))) (Err NoRoom)
text_reading (spec.refused k) room = Err k

abbrev pub decoded_text : spec.Decoded → List ℕ
decoded_text (spec.decoded t) = t.characters
decoded_text (spec.refused k) = []

-- the values for each case, 0 beside a refusal
abbrev pub read_hours : Result Text Refusal → ℕ
read_hours (Ok t) = t.hours
read_hours (Err k) = 0

abbrev pub read_minutes : Result Text Refusal → ℕ
read_minutes (Ok t) = t.minutes
read_minutes (Err k) = 0

abbrev pub read_padding : Result Text Refusal → ℕ
read_padding (Ok t) = t.padding
read_padding (Err k) = 0

abbrev pub read_length : Result Text Refusal → ℕ
read_length (Ok t) = t.length
read_length (Err k) = 0

-- the bytes that each case writes
abbrev pub read_output : Result Text Refusal → spec.Decoded → List ℕ
read_output (Ok t) d = decoded_text d
read_output (Err k) d = []

-- what reading what some bytes hold answers and leaves
pub record ReadText (held : spec.Decoded) (out : List ℕ) (answer : Result Text Refusal) (left : List ℕ) : Type 0 where
  pub answers : answer ≡ text_reading held (length out)
  pub leaves : left ≡ written (read_output answer held) out

-- `BadField` for a header field too wide for its bits; `NoCharacter` for a character that the list lacks; then `NoRoom`
unfoldable pub text_writing : spec.Text → ℕ → Result ℕ Refusal
text_writing t room =
    cond (spec.is_fit t.hours t.minutes t.padding)
    (cond (are_listed t.characters)
    (cond (leb (length (spec.encode t)) room) (Ok (length (spec.encode t))) (Err NoRoom))
    (Err NoCharacter))
    (Err BadField)

pub record WroteText (t : spec.Text) (out : List ℕ) (answer : Result ℕ Refusal) (left : List ℕ) : Type 0 where
  pub answers : answer ≡ text_writing t (length out)
  pub leaves : left ≡ written (written_output answer (spec.encode t)) out
