-- `by_value_benchmark::by_value_answers` meets its contract. The loop's invariant: those counted and those that are left to be given are all.
-- Assumes nothing.
use mathlib.Core.Path.{◌≡◌}
use Prim.Native.Nat.{◌+◌, ◌≤◌}
use lib.ListN.{drop}
use Rattle.collecting.specs.Step.{fresh}
use Rattle.by_value_benchmark.specs.Answers.{answer_count}
use Rattle.by_value_benchmark.proofs.by_value_answers.Given as goal

abbrev pub invariant-loop-byte : goal.invariant-loop-byte
invariant-loop-byte l =
    (l.n ≤ l.byte-index) × (l.n + answer_count l.collector (drop l.byte-index l.bytes) ≡ answer_count fresh l.bytes)
