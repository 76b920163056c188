-- `by_value_benchmark::by_value_answers` meets its contract. The loop's invariant: those counted and those that are left to be given are all.
-- Assumes nothing.
use native.Mathlib.Omega.{arith}
use mathlib.Core.Path.{◌≡◌, ap, ◌∙◌}
use mathlib.Core.Bool.{cond}
use mir.Val.{bool_byte}
use Prim.Native.Nat.{◌+◌}
use lib.ListN.{drop, get_or}
use Rattle.collecting.specs.declared.Collector.{Collector}
use Rattle.collecting.specs.declared.Collected.{Collected}
use Rattle.collecting.specs.Step.{next, answer_to, stepped}
use Rattle.collecting.specs.Stream.{is_answered}
use Rattle.by_value_benchmark.specs.Answers.{answer_count}
use Rattle.by_value_benchmark.proofs.Counting.{byte_of, at_most_one, one_less, none_left}
use Rattle.by_value_benchmark.proofs.by_value_answers.Goals as goal

pub loop-byte-preserved : goal.loop-byte-preserved
unfolding stepped
loop-byte-preserved c =
    let l = c.loop-byte in
    let bytes = c.args.bytes.now in
    let b = get_or bytes l.byte-index 0 in
    let state : c.step-collected.result.state ≡ next l.collector b = ap (λ (s : Collected). s.state) c.step-collected.ensures in
    let counts : c.from-n.result ≡ cond (is_answered (answer_to l.collector b)) 1 0 =
    c.from-n.ensures ∙ ap bool_byte c.is_answered.ensures ∙ byte_of (is_answered c.step-collected.result.answer) ∙ ap (λ (s : Collected). cond (is_answered s.answer) 1 0) c.step-collected.ensures in (
      omega (arith, counts, at_most_one (answer_to l.collector b)),
      omega (arith, counts, one_less l.collector bytes l.byte-index (omega arith), ap (λ (d : Collector). answer_count d (drop (l.byte-index + 1) bytes)) state),
    )

pub returns : goal.returns
returns c =
    omega (arith, c.loop-byte.invariant.1, none_left c.loop-byte.collector c.args.bytes.now c.loop-byte.byte-index (omega arith))
