-- Collecting's answer, out of its struct for C, is tallied alike.
-- Assumes nothing.
use mathlib.Core.Path.{◌≡◌, refl, sym, ap}
use mathlib.Core.Bool.{Bool, true, false, cond}
use Prim.Native.Nat.{ℕ}
use lib.Dec.{eqb}
use borrow.Author.Tests.{eqb-true}
use Rattle.collecting.specs.declared.Answer.{Answer}
use Rattle.collecting.specs.declared.Answer.TheVariants.{None, Accepted, Refused}
use Rattle.collecting.specs.Stream.{Run}
use Rattle.tallying.specs.declared.Tally.{Tally}
use Rattle.tallying.specs.Tally.{raised_at, tallied}
use Rattle.gdl90.specs.Collecting.{feed_answer, ran_answer, answer_in}

-- the answer in the struct for C is tallied as the answer
pub tallied_same : (t : Tally) (r : Run) → tallied t (answer_in (ran_answer r)) ≡ tallied t r.last.answer
unfolding answer_in tallied
tallied_same t r = go r.last.answer
  where
    with_number : (n at : ℕ) (e : Bool) → eqb n 0 ≡ e → tallied t (cond e (Accepted 0) (Refused n at)) ≡ raised_at t n
    with_number n at true e = ap (raised_at t) (sym (eqb-true n 0 e))
    with_number n at false e = refl

    go : (a : Answer) → tallied t (answer_in (feed_answer (record { control = r.last.state.control; taken = r.count; answer = a }))) ≡ tallied t a
    go None = refl
    go (Accepted k) = refl
    go (Refused n at) = with_number n at (eqb n 0) refl
