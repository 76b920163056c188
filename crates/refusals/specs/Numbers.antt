-- The number of each refusal (RULES 'Numbers').
-- Assumes nothing.
use Rattle.std.specs.Prelude.{ℕ, Result, Ok, Err}
use Rattle.refusals.specs.declared.Refusal.{Refusal}
use Rattle.refusals.specs.declared.Refusal.TheVariants.{OtherId, WrongLength, BadField, NoRoom, NotFramed, PastTheEnd, NoFrame, NoHeader, NoText, NoCharacter, RetiredId}

abbrev pub refusal_number : Refusal → ℕ
refusal_number OtherId = 6
refusal_number WrongLength = 7
refusal_number BadField = 8
refusal_number NoRoom = 9
refusal_number NotFramed = 10
refusal_number PastTheEnd = 11
refusal_number NoFrame = 13
refusal_number NoHeader = 14
refusal_number NoText = 15
refusal_number NoCharacter = 16
refusal_number RetiredId = 17

-- the number of an answer: 0 where there is no refusal
abbrev pub number_in : {X : Type 0} → Result X Refusal → ℕ
number_in (Ok x) = 0
number_in (Err refusal) = refusal_number refusal

-- how many an answer says, bytes or entries: 0 with a refusal
abbrev pub count_in : Result ℕ Refusal → ℕ
count_in (Ok n) = n
count_in (Err refusal) = 0
