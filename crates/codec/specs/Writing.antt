-- What writing a message answers (RULES 'Numbers', 'Messages'), and what the lent output then holds.
-- Assumes nothing.
use Rattle.std.specs.Prelude.{◌≡◌, ℕ, Bool, cond, List, [], leb, length, Result, Ok, Err}
use Rattle.numbers.specs.Lent.{written}
use Rattle.refusals.specs.declared.Refusal.{Refusal}
use Rattle.refusals.specs.declared.Refusal.TheVariants.{BadField, NoRoom}
use Rattle.refusals.specs.Numbers.{refusal_number}

-- 8 unless the value is good; then 9 exactly when the output is shorter than the message; `room` is its length
unfoldable pub writing : Bool → List ℕ → ℕ → Result ℕ Refusal
writing good bytes room = cond good (cond (leb (length bytes) room) (Ok (length bytes)) (Err NoRoom)) (Err BadField)

-- the bytes that each answer writes for a message
abbrev pub written_output : Result ℕ Refusal → List ℕ → List ℕ
written_output (Ok n) bytes = bytes
written_output (Err refusal) bytes = []

-- the bytes of a message, written where the value is good
pub record Wrote (good : Bool) (bytes out : List ℕ) (answer : Result ℕ Refusal) (left : List ℕ) : Type 0 where
  pub answers : answer ≡ writing good bytes (length out)
  pub leaves : left ≡ written (written_output answer bytes) out
