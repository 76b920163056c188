-- How many answers a list of bytes is given.
-- Assumes nothing.
use Rattle.std.specs.Prelude.{ℕ, ◌+◌, cond, List, [], ◌∷◌}
use Rattle.collecting.specs.declared.Collector.{Collector}
use Rattle.collecting.specs.Step.{next, answer_to}
use Rattle.collecting.specs.Stream.{is_answered}

unfoldable pub answer_count : Collector → List ℕ → ℕ
answer_count c [] = 0
answer_count c (b ∷ bs) = cond (is_answered (answer_to c b)) 1 0 + answer_count (next c b) bs
