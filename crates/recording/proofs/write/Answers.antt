-- `recording::write` meets its contract. The loop's invariant: what is left is to store what is left to be answered.
-- Assumes nothing.
use native.Mathlib.Omega.{arith}
use mathlib.Core.Path.{◌≡◌, refl, ap, ◌∙◌, subst}
use mathlib.Core.Bool.{Bool, true, false, ◌||◌, true≢false}
use Prim.Native.Nat.{ℕ, ◌≤◌, ◌+◌, ◌*◌, ◌/◌}
use mathlib.Core.List.{List, [], ◌∷◌, map}
use lib.Dec.{ltb}
use lib.ListN.{length, take, length-append}
use lib.Seq.{length-take-le}
use borrow.Author.Tests.{ltb-false}
use Rattle.numbers.specs.Lent.{Stored}
use Rattle.numbers.proofs.Storing.{stored-length, rest_more, rest_none, rest_size, from_first}
use Rattle.collecting.specs.Stream.{Reply, nothing, message, refused}
use Rattle.collecting.specs.Between.{reply_between}
use Rattle.recording.specs.Cut.{cut, between_flags}
use Rattle.recording.specs.Steps.{answer_entry}
use Rattle.recording.specs.Recording.{end_to_end, only_answers, answers_between, each_answer, entry_of, message_in, needed_by, is_short}
use Rattle.recording.proofs.Turns.{answers_from, none_from, from_first_flag, turn_entries, turn_messages, turn_size, turn_ends}
use Rattle.recording.proofs.write.Goals as goal

-- three numbers an entry
entries-size : (rs : List Reply) → length (end_to_end entry_of (only_answers rs)) ≡ 3 * length (only_answers rs)
unfolding end_to_end
entries-size [] = refl
entries-size (nothing ∷ rs) = entries-size rs
entries-size (message m ∷ rs) = omega (arith, entries-size rs)
entries-size (refused n at ∷ rs) = omega (arith, entries-size rs)

-- what is not too short has room for all
fitting : (bs : List ℕ) (numbers bytes : ℕ) → is_short bs numbers bytes ≡ false → (length (each_answer entry_of bs) ≤ numbers) × (length (each_answer message_in bs) ≤ bytes)
unfolding answers_between
fitting bs numbers bytes = go (ltb (numbers / 3) (needed_by bs).entries) (ltb bytes (needed_by bs).bytes) refl refl
  where
    go : (s t : Bool) → ltb (numbers / 3) (needed_by bs).entries ≡ s → ltb bytes (needed_by bs).bytes ≡ t → (s || t) ≡ false
        → (length (each_answer entry_of bs) ≤ numbers) × (length (each_answer message_in bs) ≤ bytes)
    go true t e f h = absurd (true≢false h)
    go false true e f h = absurd (true≢false h)
    go false false e f h = (omega (arith, ltb-false (numbers / 3) (needed_by bs).entries e, entries-size (map reply_between (between_flags (cut bs)))), ltb-false bytes (needed_by bs).bytes f)

pub loop-i-init : goal.loop-i-init
loop-i-init c =
    let a = c.args in
    let all = from_first_flag a.recording.now c.part_end-i.result c.part_end-i.ensures in (
      all.0,
      refl,
      refl,
      refl,
      λ last left s. subst (λ (rs : List Reply). Stored a.list.now 0 (end_to_end entry_of rs) last left) all.1 s,
      λ last left s. subst (λ (rs : List Reply). Stored a.messages.now 0 (end_to_end message_in rs) last left) all.1 s,
    )

pub put_entry-n-requires : goal.put_entry-n-requires
put_entry-n-requires c =
    let bs = c.args.recording.now in
    let p = c.answer_part-part.result in
    let e = turn_entries bs c.loop-i.i p _ c.answer_part-part.ensures in
    omega (arith, rest_size c.loop-i.invariant.4, ap length e, length-append (answer_entry p.answer) (end_to_end entry_of (answers_from bs p.end)), (fitting bs _ _ c.requires).0, c.loop-i.invariant.1)

pub put_message-k-requires : goal.put_message-k-requires
put_message-k-requires c =
    let bs = c.args.recording.now in
    let room = c.answer_part-part.new.room in
    let size = length-take-le c.message_length-size.result room (omega (arith, c.message_length-size.ensures, c.answer_part-part.ensures.answers.within)) in
    let fits : c.loop-i.k + length (take c.message_length-size.result room) ≤ length c.loop-i.messages =
    omega (arith, size, c.message_length-size.ensures, turn_size bs c.loop-i.i _ _ c.answer_part-part.ensures, rest_size c.loop-i.invariant.5, (fitting bs _ _ c.requires).1, c.loop-i.invariant.2) in
    fits

pub loop-i-preserved : goal.loop-i-preserved
loop-i-preserved c =
    let stored = c.put_message-k.ensures in
    let bs = c.args.recording.now in
    let w = c.answer_part-part.ensures in (
      (turn_ends bs c.loop-i.i _ _ w (omega arith)).1,
      stored-length c.put_entry-n.ensures ∙ c.loop-i.invariant.1,
      stored-length stored ∙ c.loop-i.invariant.2,
      w.size,
      rest_more c.put_entry-n.ensures (rw (turn_entries bs c.loop-i.i _ _ w) at c.loop-i.invariant.4),
      rest_more (rw c.message_length-size.ensures at stored) (rw (turn_messages bs c.loop-i.i _ _ w) at c.loop-i.invariant.5),
    )

pub returns : goal.returns
unfolding end_to_end
returns c =
    let bs = c.args.recording.now in
    let none = none_from bs c.loop-i.i (omega arith) in
    let e = rest_none (rw none at c.loop-i.invariant.4) in
    let m = rest_none (rw none at c.loop-i.invariant.5) in
    (e.leaves ∙ from_first (each_answer entry_of bs) c.args.list.now (fitting bs _ _ c.requires).0, m.leaves ∙ from_first (each_answer message_in bs) c.args.messages.now (fitting bs _ _ c.requires).1)
