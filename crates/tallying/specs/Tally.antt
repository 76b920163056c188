-- The tally (RULES 'Tally'): one count for each collecting answer, 0 to 5.
-- Assumes nothing.
use Rattle.std.specs.Prelude.{ℕ, ◌+◌, min, cond, ltb, get_or, set, replicate}
use Rattle.collecting.specs.declared.Answer.{Answer}
use Rattle.collecting.specs.declared.Answer.TheVariants.{None, Accepted, Refused}
use Rattle.tallying.specs.declared.Tally.{Tally}

-- a count goes no further
abbrev pub hold : ℕ
hold = 4294967295

abbrev pub zero : Tally
zero = record { counts = replicate 6 0 }

-- one more of answer n, up to the hold; there are six counts
unfoldable pub raised_at : Tally → ℕ → Tally
raised_at t n = cond (ltb n 6) (record { counts = set t.counts n (min (get_or t.counts n 0 + 1) hold) }) t

-- the tally once an answer is given; none yet is no answer
unfoldable pub tallied : Tally → Answer → Tally
tallied t None = t
tallied t (Accepted k) = raised_at t 0
tallied t (Refused n at) = raised_at t n
