-- What reading a message of one kind answers (RULES 'Numbers', 'Messages'), the same for every kind: 6, then 7, then 8.
-- Assumes nothing.
use Rattle.std.specs.Prelude.{ℕ, Bool, cond, List, eqb, length, get_or, Result, Ok, Err}
use Rattle.refusals.specs.declared.Refusal.{Refusal}
use Rattle.refusals.specs.declared.Refusal.TheVariants.{OtherId, WrongLength, BadField}
use Rattle.refusals.specs.Numbers.{number_in}

-- 6 for no bytes or another id than the kind's; then 7 for another length than the kind's; else the message
unfoldable pub fit : ℕ → ℕ → List ℕ → Result (List ℕ) Refusal
fit id size m =
    cond (eqb (length m) 0) (Err OtherId)
    (cond (eqb (get_or m 0 0) id) (cond (eqb (length m) size) (Ok m) (Err WrongLength)) (Err OtherId))

-- the number of that, 0 for a message that fits
unfoldable pub misfit : ℕ → ℕ → List ℕ → ℕ
misfit id size m = number_in (fit id size m)

-- what does not fit is refused; then 8 unless the value that the bytes hold is good
abbrev pub held : {X : Type 0} → (List ℕ → X) → (X → Bool) → Result (List ℕ) Refusal → Result X Refusal
held value good (Ok m) = cond (good (value m)) (Ok (value m)) (Err BadField)
held value good (Err refusal) = Err refusal

unfoldable pub reading : {X : Type 0} → ℕ → ℕ → (List ℕ → X) → (X → Bool) → List ℕ → Result X Refusal
reading id size value good m = held value good (fit id size m)
