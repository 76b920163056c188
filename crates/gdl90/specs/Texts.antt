-- What reading and writing a weather text answer, as C has it (RULES 'Structs for C'): the number, and the values, 0 with a refusal.
-- Assumes nothing.
use Rattle.std.specs.Prelude.{◌≡◌, ℕ, List, Result, length}
use Rattle.numbers.specs.Lent.{written}
use Rattle.refusals.specs.declared.Refusal.{Refusal}
use Rattle.generic_text.specs.declared.Text as read
use Rattle.generic_text.specs.Product.{Text, decode, encode}
use Rattle.generic_text.specs.Answers.{text_reading, read_hours, read_minutes, read_padding, read_length, read_output, text_writing}
use Rattle.gdl90.specs.declared.TextAnswer.{TextAnswer}
use Rattle.gdl90.specs.declared.WriteAnswer.{WriteAnswer}
use Rattle.gdl90.specs.Messages.{AnsweredBy}
use Rattle.refusals.specs.Numbers.{number_in}

abbrev pub text_answer : Result read.Text Refusal → TextAnswer
text_answer r = record { number = number_in r; hours = read_hours r; minutes = read_minutes r; padding = read_padding r; length = read_length r }

pub record ReadsText (apdu out : List ℕ) (answer : TextAnswer) (left : List ℕ) : Type 0 where
  pub answers : answer ≡ text_answer (text_reading (decode apdu) (length out))
  pub leaves : left ≡ written (read_output (text_reading (decode apdu) (length out)) (decode apdu)) out

abbrev pub WritesText : Text → List ℕ → WriteAnswer → List ℕ → Type 0
WritesText t out = AnsweredBy (text_writing t (length out)) (encode t) out
