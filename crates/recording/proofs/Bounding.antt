-- How many entries and how many bytes of messages a recording can have.
-- Assumes nothing.
use mathlib.Core.Path.{◌≡◌, refl, sym, ap, ◌∙◌, subst}
use mathlib.Core.Bool.{Bool, true, false, cond}
use Prim.Native.Nat.{ℕ, suc, ◌+◌, ◌-◌, ◌*◌, ◌≤◌, ◌<◌}
use mathlib.Core.List.{List, [], ◌∷◌, map}
use native.Mathlib.Omega.{arith}
use lib.Dec.{eqb, ltb}
use lib.ListN.{length, take, drop, get_or, length-take, length-append, length-drop}
use Rattle.fcs.specs.Fcs.{fcs}
use Rattle.framing.specs.Stuffing.{flag, Unstuffed, unstuff}
use Rattle.framing.proofs.Unstuffing.{unstuff_most}
use Rattle.collecting.specs.Stream.{Reply, nothing, message, refused}
use Rattle.collecting.specs.Between.{whole, verdict, reply_between}
use Rattle.recording.specs.Steps.{first_fault, stuffed_taken}
use Rattle.recording.proofs.Judging.{verdict_judged}
use Rattle.recording.specs.Cut.{onto, cut, closed_parts, between_flags, flag_count}
use Rattle.recording.specs.Recording.{end_to_end, if_answer, answers_between, each_answer, message_in, is_short, recorded}
use Rattle.recording.specs.Claims.{Enough}
use Rattle.recording.proofs.Cutting.{First, has_first, closed_two, part_answers}
use Rattle.recording.proofs.Turns.{each_once}

-- a message is some of the bytes of its part
message_most : (bs : List ℕ) → length (message_in (reply_between bs)) ≤ length bs
unfolding reply_between whole
message_most bs = rw (verdict_judged (length bs) u) (go (eqb (first_fault u) 0) (eqb (length ys) 0) (ltb (length ys) 3) (eqb (fcs (take (length ys - 2) ys)) (256 * get_or ys (length ys - 1) 0 + get_or ys (length ys - 2) 0)) (stuffed_taken (length bs) u))
  where
    u : Unstuffed
    u = unstuff bs

    ys : List ℕ
    ys = u.bytes

    go : (s t v w : Bool) (at : ℕ)
        → length (message_in (cond s (cond t nothing (cond v (refused 4 at) (cond w (message (take (length ys - 2) ys)) (refused 5 at)))) (refused (first_fault u) at))) ≤ length bs
    go false t v w at = omega arith
    go true true v w at = omega arith
    go true false true w at = omega arith
    go true false false false at = omega arith
    go true false false true at = omega (arith, length-take (length ys - 2) ys, unstuff_most bs)

most_one : (r : Reply) → length (if_answer r) ≤ 1
most_one nothing = omega arith
most_one (message m) = omega arith
most_one (refused n at) = omega arith

-- an answer is to one byte or more
answer_most : (bs : List ℕ) → 2 * length (if_answer (reply_between bs)) ≤ suc (length bs)
answer_most [] = unfold reply_between verdict whole unstuff in omega arith
answer_most (b ∷ bs) = omega (arith, most_one (reply_between (b ∷ bs)))

-- the bytes of parts, and a flag for each
with_flags : List (List ℕ) → ℕ
with_flags [] = 0
with_flags (p ∷ ps) = suc (length p + with_flags ps)

with_flags_onto : (b : ℕ) (ps : List (List ℕ)) → First ps → with_flags (onto b ps) ≡ suc (with_flags ps)
unfolding with_flags
with_flags_onto b ps p = rw p.are (omega arith)

with_flags_cut : (bs : List ℕ) → with_flags (cut bs) ≡ suc (length bs)
unfolding cut with_flags
with_flags_cut [] = refl
with_flags_cut (b ∷ bs) = go (eqb b flag) (with_flags_cut bs)
  where
    go : (t : Bool) → with_flags (cut bs) ≡ suc (length bs) → with_flags (cond t ([] ∷ cut bs) (onto b (cut bs))) ≡ suc (suc (length bs))
    go true h = omega arith
    go false h = with_flags_onto b (cut bs) (has_first bs) ∙ ap suc h

with_flags_closed : (p : List ℕ) (ps : List (List ℕ)) → with_flags (closed_parts (p ∷ ps)) < with_flags (p ∷ ps)
unfolding with_flags
with_flags_closed p [] = omega arith
with_flags_closed p (q ∷ ps) = rw (closed_two p q ps) (omega (arith, with_flags_closed q ps))

with_flags_drop : (ps : List (List ℕ)) → with_flags (drop 1 ps) ≤ with_flags ps
unfolding with_flags
with_flags_drop [] = omega arith
with_flags_drop (p ∷ ps) = omega arith

between_most : (bs : List ℕ) → with_flags (between_flags (cut bs)) ≤ length bs
unfolding between_flags
between_most bs =
    let p = has_first bs in
    omega (arith, with_flags_drop (closed_parts (cut bs)), with_flags_cut bs, subst (λ (ps : List (List ℕ)). with_flags (closed_parts ps) < with_flags ps) (sym p.are) (with_flags_closed p.first p.rest))

answers_most : (ps : List (List ℕ)) → 2 * length (part_answers ps) ≤ with_flags ps
unfolding with_flags end_to_end
answers_most [] = omega arith
answers_most (p ∷ ps) = omega (arith, answer_most p, answers_most ps, length-append (if_answer (reply_between p)) (part_answers ps))

messages_most : (ps : List (List ℕ)) → length (end_to_end message_in (map reply_between ps)) ≤ with_flags ps
unfolding with_flags end_to_end
messages_most [] = omega arith
messages_most (p ∷ ps) = omega (arith, message_most p, messages_most ps, length-append (message_in (reply_between p)) (end_to_end message_in (map reply_between ps)))

onto-length : (b : ℕ) (ps : List (List ℕ)) → length (onto b ps) ≡ length ps
onto-length b [] = refl
onto-length b (p ∷ ps) = refl

-- a part more than flags
parts_count : (bs : List ℕ) → length (cut bs) ≡ suc (flag_count bs)
unfolding cut flag_count
parts_count [] = refl
parts_count (b ∷ bs) = go (eqb b flag) (parts_count bs)
  where
    go : (t : Bool) → length (cut bs) ≡ suc (flag_count bs) → length (cond t ([] ∷ cut bs) (onto b (cut bs))) ≡ suc (cond t 1 0 + flag_count bs)
    go true h = omega arith
    go false h = onto-length b (cut bs) ∙ omega arith

answers_count : (ps : List (List ℕ)) → length (part_answers ps) ≤ length ps
unfolding end_to_end
answers_count [] = omega arith
answers_count (p ∷ ps) = omega (arith, most_one (reply_between p), answers_count ps, length-append (if_answer (reply_between p)) (part_answers ps))

-- what a recording can need at most
pub record Most (bs : List ℕ) : Type 0 where
  pub flags : length (answers_between bs) ≤ flag_count bs
  pub halves : 2 * length (answers_between bs) ≤ length bs
  pub bytes : length (each_answer message_in bs) ≤ length bs

pub most : (bs : List ℕ) → Most bs
unfolding answers_between between_flags
most bs =
    let ps = between_flags (cut bs) in
    record {
      flags = omega (arith, answers_count ps, length-drop 1 (closed_parts (cut bs)), length-take (length (cut bs) - 1) (cut bs), parts_count bs);
      halves = omega (arith, answers_most ps, between_most bs);
      bytes = omega (arith, messages_most ps, between_most bs, ap length (each_once message_in refl (map reply_between ps)));
    }

pub enough : Enough
unfolding recorded
enough bs numbers bytes h k =
    let m = most bs in
    let short : is_short bs numbers bytes ≡ false = grind (arith, m.flags, m.halves, m.bytes) in
    rw short refl
