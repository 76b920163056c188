-- Each turn takes a byte or more, and no more than are left.
-- Assumes nothing.
use Rattle.std.proofs.Common.{◌≡◌, ℕ, ◌≤◌, ◌<◌, List, length, ap, rules, arith}
use Rattle.collecting.specs.declared.Fed.{Fed}
use Rattle.collecting.specs.declared.Collector.{Collector}
use Rattle.collecting.specs.Stream.{Run, run, fed}
use Rattle.collecting.proofs.Stepwise.{moves}
use Rattle.collecting_vectors.proofs.Stream.feed.Goals as goal

took : (c : Collector) (message rest : List ℕ) (f : Fed) (room left : List ℕ) → fed f room left ≡ run c message rest → 0 < length rest → (1 ≤ f.taken) × (f.taken ≤ length rest)
took c message rest f room left e some =
    let count : f.taken ≡ (run c message rest).count = ap (λ (r : Run). r.count) e in
    (omega (arith, moves c message rest some), omega (arith, moves c message rest some))

pub slice_bounds-rest-count : goal.slice_bounds-rest-count
slice_bounds-rest-count g c = omega (arith, took _ _ _ _ _ _ c.feed-fed.ensures (search rules))

pub slice_bounds-rest-start : goal.slice_bounds-rest-start
slice_bounds-rest-start g c = omega (arith, took _ _ _ _ _ _ c.feed-fed.ensures (search rules))

pub overflow_sub-at-in-loop-rest : goal.overflow_sub-at-in-loop-rest
overflow_sub-at-in-loop-rest g c = let t = took _ _ _ _ _ _ c.feed-fed.ensures (search rules) in search rules

pub loop-rest-smaller : goal.loop-rest-smaller
loop-rest-smaller g c = let t = took _ _ _ _ _ _ c.feed-fed.ensures (search rules) in search rules
