-- `recording::measure` meets its contract. The loop's invariant: what is counted, and what is left to count, make the whole.
-- Assumes nothing.
use native.Mathlib.Omega.{arith}
use mathlib.Core.Path.{◌≡◌, refl, sym, ap, ap₂, ◌∙◌}
use Prim.Native.Nat.{ℕ}
use mathlib.Core.Bool.{Bool, cond}
use mathlib.Core.List.{List}
use lib.ListN.{length}
use Rattle.collecting.specs.Stream.{Reply}
use Rattle.recording.specs.Recording.{end_to_end, message_in}
use Rattle.recording.proofs.Turns.{none_from, from_first_flag, turn_count, turn_size, turn_ends}
use Rattle.recording.proofs.Bounding.{most}
use Rattle.recording.proofs.measure.Goals.{then-is_answered, else-is_answered}
use Rattle.recording.proofs.measure.Goals as goal

-- an answer is one entry
counted : {r s t : Bool} → r ≡ s → r ≡ t → cond s 1 0 ≡ cond {A = ℕ} t 1 0
counted e f = ap (λ (t : Bool). cond t 1 0) (sym e ∙ f)

pub loop-i-init : goal.loop-i-init
loop-i-init c =
    let bs = c.args.recording.now in
    let all = from_first_flag bs c.part_end-i.result c.part_end-i.ensures in
    (all.0, refl, omega (arith, ap length all.1), omega (arith, ap (λ (rs : List Reply). length (end_to_end message_in rs)) all.1))

pub overflow_add-entries : goal.overflow_add-entries
overflow_add-entries c =
    let bs = c.args.recording.now in
    omega (arith, counted c.is_answered.ensures c.if-is_answered.true, turn_count bs c.loop-i.i _ _ c.answer_part-part.ensures, c.loop-i.invariant.2, (most bs).halves)

pub overflow_add-bytes : goal.overflow_add-bytes
overflow_add-bytes c =
    let bs = c.args.recording.now in
    omega (arith, c.message_length-bytes.ensures, turn_size bs c.loop-i.i _ _ c.answer_part-part.ensures, c.loop-i.invariant.3, (most bs).bytes)

pub loop-i-preserved : goal.loop-i-preserved
loop-i-preserved c =
    let bs = c.args.recording.now in
    let w = c.answer_part-part.ensures in
    let one = c.is_answered.ensures in
    let count = turn_count bs c.loop-i.i _ _ w in (
      (turn_ends bs c.loop-i.i _ _ w (omega arith)).1,
      w.size,
      (elim c.if-is_answered.branch [ then-is_answered w ↦ omega (arith, count, counted one w.if-is_answered.true, w.entries-is, c.loop-i.invariant.2) | else-is_answered w ↦ omega (arith, count, counted one w.if-is_answered.false, w.entries-is, c.loop-i.invariant.2) ]),
      omega (arith, c.message_length-bytes.ensures, turn_size bs c.loop-i.i _ _ w, c.loop-i.invariant.3),
    )

pub returns : goal.returns
unfolding end_to_end
returns c =
    let bs = c.args.recording.now in
    let none = none_from bs c.loop-i.i (omega arith) in
    ap₂ (λ (n k : ℕ). record { entries = n; bytes = k }) (omega (arith, ap length none, c.loop-i.invariant.2)) (omega (arith, ap (λ (rs : List Reply). length (end_to_end message_in rs)) none, c.loop-i.invariant.3))
