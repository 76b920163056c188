-- The turns of `by_value_answers`.
-- Assumes nothing.
use mathlib.Core.Path.{◌≡◌, refl, sym, ap, ◌∙◌}
use mathlib.Core.Bool.{Bool, true, false, cond}
use Prim.Native.Nat.{ℕ, ◌+◌, ◌≤◌, ◌<◌}
use mathlib.Core.List.{List, ◌∷◌}
use native.Mathlib.Omega.{arith}
use native.Mathlib.Numerals.{add-one}
use lib.ListN.{length, drop, get_or, drop_of_length-le}
use lib.Seq.{drop-cons}
use mir.Val.{bool_byte}
use Rattle.collecting.specs.declared.Answer.{Answer}
use Rattle.collecting.specs.declared.Collector.{Collector}
use Rattle.collecting.specs.Step.{next, answer_to}
use Rattle.collecting.specs.Stream.{is_answered}
use Rattle.by_value_benchmark.specs.Answers.{answer_count}

pub byte_of : (t : Bool) → bool_byte t ≡ cond t 1 0
byte_of true = refl
byte_of false = refl

pub at_most_one : (a : Answer) → cond (is_answered a) 1 0 ≤ 1
at_most_one a = go (is_answered a)
  where
    go : (t : Bool) → cond t 1 0 ≤ 1
    go true = omega arith
    go false = omega arith

module _ (c : Collector) (bs : List ℕ) (i : ℕ) where
  pub one_less : i < length bs
      → answer_count c (drop i bs) ≡ cond (is_answered (answer_to c (get_or bs i 0))) 1 0 + answer_count (next c (get_or bs i 0)) (drop (i + 1) bs)
  unfolding answer_count
  one_less h = ap (answer_count c) (drop-cons bs i 0 h ∙ ap (λ (n : ℕ). get_or bs i 0 ∷ drop n bs) (sym (add-one i)))

  pub none_left : length bs ≤ i → answer_count c (drop i bs) ≡ 0
  unfolding answer_count
  none_left h = ap (answer_count c) (drop_of_length-le bs h)
