-- The loops over a recording: what the part of a turn is answered, and what is left then.
-- Assumes nothing.
use mathlib.Core.Path.{◌≡◌, refl, sym, ap, ◌∙◌}
use mathlib.Core.Bool.{Bool, true, false, cond}
use Prim.Native.Nat.{ℕ, ◌+◌, ◌≤◌, ◌<◌}
use mathlib.Core.List.{List, [], ◌∷◌, ◌++◌}
use native.Mathlib.Omega.{arith}
use native.Mathlib.Numerals.{add-one}
use lib.Dec.{ltb}
use lib.ListN.{length, take, drop, length-append, length-drop, drop_of_length-le}
use lib.Seq.{drop-drop, length-take-le}
use borrow.Author.Tests.{ltb-true, ltb-false}
use Rattle.collecting.specs.declared.Answer.{Answer}
use Rattle.collecting.specs.declared.Answer.TheVariants.{None, Accepted, Refused}
use Rattle.collecting.specs.Stream.{Reply, nothing, message, refused, reply, unflagged, is_answered, message_length}
use Rattle.collecting.specs.Between.{reply_between}
use Rattle.collecting.proofs.Filling.{unflagged_most}
use Rattle.recording.specs.declared.PartAnswer.{PartAnswer}
use Rattle.recording.specs.Cut.{cut, closed_parts, between_flags}
use Rattle.recording.specs.Steps.{reply_to_part, AnswersPart, answer_entry}
use Rattle.recording.specs.Recording.{end_to_end, if_answer, only_answers, answers_between, entry_of, message_in}
use Rattle.recording.proofs.Cutting.{cut_flag, cut_none, closed_more, part_answers}

-- the answers from the flag at i on
abbrev pub answers_from : List ℕ → ℕ → List Reply
answers_from bs i = part_answers (closed_parts (cut (drop (i + 1) bs)))

pub none_from : (bs : List ℕ) (i : ℕ) → length bs ≤ i → answers_from bs i ≡ []
unfolding cut end_to_end
none_from bs i h = ap (λ (l : List ℕ). part_answers (closed_parts (cut l))) (drop_of_length-le bs {i = i + 1} (omega arith))

module _ (bs : List ℕ) where
  closed_flag : unflagged bs < length bs → closed_parts (cut bs) ≡ take (unflagged bs) bs ∷ closed_parts (cut (drop (unflagged bs + 1) bs))
  closed_flag h = ap closed_parts (cut_flag bs h) ∙ rw (← add-one (unflagged bs)) (closed_more (take (unflagged bs) bs) (drop (unflagged bs + 1) bs))

  all_from : answers_from bs (unflagged bs) ≡ answers_between bs
  unfolding answers_between between_flags end_to_end
  all_from = go (ltb (unflagged bs) (length bs)) refl
    where
      go : (t : Bool) → ltb (unflagged bs) (length bs) ≡ t → answers_from bs (unflagged bs) ≡ part_answers (drop 1 (closed_parts (cut bs)))
      go true e = ap (λ (ps : List (List ℕ)). part_answers (drop 1 ps)) (sym (closed_flag (ltb-true (unflagged bs) (length bs) e)))
      go false e =
          let h = ltb-false (unflagged bs) (length bs) e in
          none_from bs (unflagged bs) h ∙ ap (λ (ps : List (List ℕ)). part_answers (drop 1 (closed_parts ps))) (sym (cut_none bs h))

  -- the part up to the next flag, and the answers from there on
  from_part : part_answers (closed_parts (cut bs)) ≡ if_answer (reply_to_part bs) ++ answers_from bs (unflagged bs)
  unfolding reply_to_part end_to_end
  from_part = go (ltb (unflagged bs) (length bs)) refl
    where
      go : (t : Bool) → ltb (unflagged bs) (length bs) ≡ t
          → part_answers (closed_parts (cut bs)) ≡ if_answer (cond t (reply_between (take (unflagged bs) bs)) nothing) ++ answers_from bs (unflagged bs)
      go true e = ap part_answers (closed_flag (ltb-true (unflagged bs) (length bs) e))
      go false e =
          let h = ltb-false (unflagged bs) (length bs) e in
          ap (λ (ps : List (List ℕ)). part_answers (closed_parts ps)) (cut_none bs h) ∙ sym (none_from bs (unflagged bs) h)

-- all of them, from the first flag on
pub from_first_flag : (bs : List ℕ) (i : ℕ) → i ≡ 0 + unflagged (drop 0 bs) → (i ≤ length bs) × (answers_from bs i ≡ answers_between bs)
from_first_flag bs i e = let first : i ≡ unflagged bs = omega (arith, e) in (omega (arith, first, unflagged_most bs), ap (answers_from bs) first ∙ all_from bs)

-- what an answer adds, where no answer adds nothing
module _ {A : Type 0} (f : Reply → List A) (silent : f nothing ≡ []) where
  adds : (r : Reply) (rs : List Reply) → end_to_end f (if_answer r ++ rs) ≡ f r ++ end_to_end f rs
  unfolding end_to_end
  adds nothing rs = sym (ap (λ (xs : List A). xs ++ end_to_end f rs) silent)
  adds (message m) rs = refl
  adds (refused n at) rs = refl

  pub each_once : (rs : List Reply) → end_to_end f (only_answers rs) ≡ end_to_end f rs
  unfolding end_to_end
  each_once [] = refl
  each_once (r ∷ rs) = adds r (only_answers rs) ∙ ap (λ (xs : List A). f r ++ xs) (each_once rs)

-- what the code makes of an answer
of_answer : (a : Answer) (room : List ℕ) → message_length a ≤ length room
    → (entry_of (reply a room) ≡ answer_entry a) × (message_in (reply a room) ≡ take (message_length a) room) × (length (if_answer (reply a room)) ≡ cond (is_answered a) 1 0)
unfolding reply
of_answer None room h = (refl, refl, refl)
of_answer (Accepted k) room h = (ap (λ (n : ℕ). 0 ∷ 0 ∷ n ∷ []) (length-take-le k room h), refl, refl)
of_answer (Refused n at) room h = (refl, refl, refl)

-- a turn at the flag i
module _ (bs : List ℕ) (i : ℕ) (p : PartAnswer) (room : List ℕ) (w : AnswersPart bs i p room) where
  r : Reply
  r = reply_to_part (drop (i + 1) bs)

  turn : answers_from bs i ≡ if_answer r ++ answers_from bs p.end
  unfolding r
  turn =
      let end : i + 1 + (unflagged (drop (i + 1) bs) + 1) ≡ p.end + 1 = omega (arith, w.ends) in
      from_part (drop (i + 1) bs)
      ∙ ap (λ (l : List ℕ). if_answer r ++ part_answers (closed_parts (cut l))) (drop-drop (unflagged (drop (i + 1) bs) + 1) (i + 1) bs ∙ ap (λ (n : ℕ). drop n bs) end)

  turn_each : (f : Reply → List ℕ) → f nothing ≡ [] → end_to_end f (answers_from bs i) ≡ f (reply p.answer room) ++ end_to_end f (answers_from bs p.end)
  unfolding r
  turn_each f silent = ap (end_to_end f) turn ∙ adds f silent r (answers_from bs p.end) ∙ ap (λ (s : Reply). f s ++ end_to_end f (answers_from bs p.end)) (sym w.answers.same)

  pub turn_entries : end_to_end entry_of (answers_from bs i) ≡ answer_entry p.answer ++ end_to_end entry_of (answers_from bs p.end)
  turn_entries = turn_each entry_of refl ∙ ap (λ (xs : List ℕ). xs ++ end_to_end entry_of (answers_from bs p.end)) (of_answer p.answer room w.answers.within).0

  pub turn_messages : end_to_end message_in (answers_from bs i) ≡ take (message_length p.answer) room ++ end_to_end message_in (answers_from bs p.end)
  turn_messages = turn_each message_in refl ∙ ap (λ (xs : List ℕ). xs ++ end_to_end message_in (answers_from bs p.end)) (of_answer p.answer room w.answers.within).1

  pub turn_count : length (answers_from bs i) ≡ cond (is_answered p.answer) 1 0 + length (answers_from bs p.end)
  unfolding r
  turn_count =
      ap length turn ∙ length-append (if_answer r) (answers_from bs p.end)
      ∙ ap (λ (n : ℕ). n + length (answers_from bs p.end)) (ap (λ (s : Reply). length (if_answer s)) (sym w.answers.same) ∙ (of_answer p.answer room w.answers.within).2)

  pub turn_size : length (end_to_end message_in (answers_from bs i)) ≡ message_length p.answer + length (end_to_end message_in (answers_from bs p.end))
  turn_size =
      ap length turn_messages ∙ length-append (take (message_length p.answer) room) (end_to_end message_in (answers_from bs p.end))
      ∙ ap (λ (n : ℕ). n + length (end_to_end message_in (answers_from bs p.end))) (length-take-le (message_length p.answer) room w.answers.within)

  pub turn_ends : i < length bs → (i < p.end) × (p.end ≤ length bs)
  turn_ends h = omega (arith, w.ends, unflagged_most (drop (i + 1) bs), length-drop (i + 1) bs)
