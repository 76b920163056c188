-- What is proved of a recording read as a whole (RULES 'Recordings'), over the definitions that the contracts cite.
-- Assumes nothing.
use Rattle.std.specs.Prelude.{◌≡◌, ℕ, ◌*◌, ◌/◌, ◌≤◌, min, List, Ok, length}
use Rattle.collecting.specs.Step.{fresh}
use Rattle.collecting.specs.Stream.{answers}
use Rattle.recording.specs.Cut.{flag_count}
use Rattle.recording.specs.Recording.{only_answers, answers_between, recorded}

-- a recording's answers are those that collecting gives to its bytes from the fresh state, the steps that answer nothing left out: number,
-- position, message, in their order
abbrev pub AsFed : Type 0
AsFed = (bs : List ℕ) → answers_between bs ≡ only_answers (answers fresh bs)

-- 9 is never answered where the list has places for as many entries as there are flags, or for half as many as there are bytes, and the
-- messages have as many bytes as the recording
abbrev pub Enough : Type 0
Enough = (bs : List ℕ) (numbers bytes : ℕ) → 3 * min (flag_count bs) (length bs / 2) ≤ numbers → length bs ≤ bytes → recorded bs numbers bytes ≡ Ok (length (answers_between bs))
