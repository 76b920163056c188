-- What is proved of the tally (RULES 'Tally'), over the definitions that the contracts cite.
-- Assumes nothing.
use Rattle.std.specs.Prelude.{◌≡◌, ℕ, ◌<◌, min, get_or}
use mathlib.Core.List.{List, foldl}
use Rattle.collecting.specs.declared.Collector.{Collector}
use Rattle.collecting.specs.Stream.{answers}
use Rattle.tallying.specs.Tally.{hold, zero}
use Rattle.tallying.specs.History.{Call, called, answers_lent, given, Stretches}

-- from a zeroed tally, after calls of whatever streams in whatever order, each count is the number of its answers given with the tally
-- lent, or the hold where that is less
abbrev pub Counted : Type 0
Counted = (xs : List Call) (n : ℕ) → n < 6 → get_or (foldl called zero xs).counts n 0 ≡ min (given n (answers_lent xs)) hold

-- so, of a stream in whatever stretches, it is the number of its answers to the stream
abbrev pub StreamCounted : Type 0
StreamCounted =
    (c : Collector) (bs : List ℕ) (xs : List Call) → Stretches c bs xs
    → (n : ℕ) → n < 6 → get_or (foldl called zero xs).counts n 0 ≡ min (given n (answers c bs)) hold
