-- A recording cut at its flags; answered part by part, it is answered as its bytes are one at a time.
-- Assumes nothing.
use mathlib.Core.Path.{◌≡◌, refl, sym, ap, ap₂, ◌∙◌, subst}
use mathlib.Core.Bool.{Bool, true, false, cond}
use Prim.Native.Nat.{ℕ, suc, ◌≤◌, ◌<◌}
use mathlib.Core.List.{List, [], ◌∷◌, ◌++◌, map, foldl-append, append-nil}
use native.Mathlib.Omega.{arith}
use native.Mathlib.Numerals.{unary_clauses}
use lib.Dec.{eqb}
use lib.ListN.{length, take, drop}
use lib.Seq.{append_snoc, take_all}
use borrow.Author.Tests.{ne_eqb, eqb-true, eqb-false}
use Rattle.framing.specs.Stuffing.{flag, Flagless}
use Rattle.framing.proofs.Unstuffing.{flagless_more}
use Rattle.collecting.specs.declared.Phase.TheVariants.{Open}
use Rattle.collecting.specs.declared.Collector.{Collector}
use Rattle.collecting.specs.Step.{cleared, fresh, taken, closed, next, answer_to}
use Rattle.collecting.specs.Stream.{Reply, nothing, reply, reply_to, after, answers, unflagged}
use Rattle.collecting.specs.Between.{reply_between}
use Rattle.collecting.proofs.Cases.{fresh_other}
use Rattle.collecting.proofs.Closing.{closes_between}
use Rattle.collecting.proofs.Filling.{unflagged_flagless}
use Rattle.recording.specs.Cut.{onto, cut, closed_parts, between_flags}
use Rattle.recording.specs.Recording.{end_to_end, if_answer, only_answers, answers_between}
use Rattle.recording.specs.Claims.{AsFed}

-- bytes without a flag are one part
cut_flagless : (us : List ℕ) → Flagless us → cut us ≡ us ∷ []
unfolding cut Flagless
cut_flagless [] f = refl
cut_flagless (u ∷ us) f = rw (ne_eqb u flag f.0) (ap (onto u) (cut_flagless us f.1))

-- a part is what stands before a flag
cut_at : (us bs : List ℕ) → Flagless us → cut (us ++ flag ∷ bs) ≡ us ∷ cut bs
unfolding cut Flagless
cut_at [] bs f = refl
cut_at (u ∷ us) bs f = rw (ne_eqb u flag f.0) (ap (onto u) (cut_at us bs f.1))

split : (bs : List ℕ) → unflagged bs < length bs → take (unflagged bs) bs ++ flag ∷ drop (suc (unflagged bs)) bs ≡ bs
unfolding unflagged
split [] h = absurd (omega arith)
split (b ∷ bs) h = go (eqb b flag) refl (split bs) h
  where
    go : (t : Bool) → eqb b flag ≡ t → (unflagged bs < length bs → take (unflagged bs) bs ++ flag ∷ drop (suc (unflagged bs)) bs ≡ bs)
        → cond t 0 (suc (unflagged bs)) < suc (length bs)
        → take (cond t 0 (suc (unflagged bs))) (b ∷ bs) ++ flag ∷ drop (suc (cond t 0 (suc (unflagged bs)))) (b ∷ bs) ≡ b ∷ bs
    go true e rest h = ap (λ (x : ℕ). x ∷ bs) (sym (eqb-true b flag e))
    go false e rest h = ap (λ (l : List ℕ). b ∷ l) (rest (omega arith))

-- the first part, and the cut of what stands behind its flag
pub cut_flag : (bs : List ℕ) → unflagged bs < length bs → cut bs ≡ take (unflagged bs) bs ∷ cut (drop (suc (unflagged bs)) bs)
cut_flag bs h = ap cut (sym (split bs h)) ∙ cut_at (take (unflagged bs) bs) (drop (suc (unflagged bs)) bs) (unflagged_flagless bs)

pub cut_none : (bs : List ℕ) → length bs ≤ unflagged bs → cut bs ≡ bs ∷ []
cut_none bs h = cut_flagless bs (subst Flagless (take_all (unflagged bs) bs h) (unflagged_flagless bs))

-- a cut has a first part
pub record First (ps : List (List ℕ)) : Type 0 where
  pub first : List ℕ
  pub rest : List (List ℕ)
  pub are : ps ≡ first ∷ rest

pub has_first : (bs : List ℕ) → First (cut bs)
unfolding cut
has_first [] = record { first = []; rest = []; are = refl }
has_first (b ∷ bs) = go (eqb b flag) (has_first bs)
  where
    go : (t : Bool) → First (cut bs) → First (cond t ([] ∷ cut bs) (onto b (cut bs)))
    go true p = record { first = []; rest = cut bs; are = refl }
    go false p = record { first = b ∷ p.first; rest = p.rest; are = ap (onto b) p.are }

pub closed_two : (p q : List ℕ) (ps : List (List ℕ)) → closed_parts (p ∷ q ∷ ps) ≡ p ∷ closed_parts (q ∷ ps)
closed_two p q ps = simp unary_clauses

pub closed_more : (p bs : List ℕ) → closed_parts (p ∷ cut bs) ≡ p ∷ closed_parts (cut bs)
closed_more p bs = let q = has_first bs in rw q.are (closed_two p q.first q.rest)

silent : (c : Collector) (b : ℕ) → eqb b flag ≡ false → reply_to c b ≡ nothing
unfolding reply_to answer_to reply
silent c b e = simp e

opens : (c : Collector) (b : ℕ) → eqb b flag ≡ true → next c b ≡ cleared Open 0
unfolding next
opens c b e = simp e

-- what parts are answered
abbrev pub part_answers : List (List ℕ) → List Reply
part_answers ps = only_answers (map reply_between ps)

-- from a flag on, with us come since
since : (bs us : List ℕ) → Flagless us → part_answers (closed_parts (cut (us ++ bs))) ≡ only_answers (answers (after (cleared Open 0) us) bs)
unfolding answers end_to_end
since [] us f = rw (append-nil us, cut_flagless us f) refl
since (b ∷ bs) us f = go (eqb b flag) refl (λ vs g. since bs vs g)
  where
    c : Collector
    c = after (cleared Open 0) us

    go : (t : Bool) → eqb b flag ≡ t → ((vs : List ℕ) → Flagless vs → part_answers (closed_parts (cut (vs ++ bs))) ≡ only_answers (answers (after (cleared Open 0) vs) bs))
        → part_answers (closed_parts (cut (us ++ b ∷ bs))) ≡ if_answer (reply_to c b) ++ only_answers (answers (next c b) bs)
    go true e rest =
        let flagged : b ≡ flag = eqb-true b flag e in
        ap (λ (x : ℕ). part_answers (closed_parts (cut (us ++ x ∷ bs)))) flagged ∙ ap (λ (ps : List (List ℕ)). part_answers (closed_parts ps)) (cut_at us bs f) ∙ ap part_answers (closed_more us bs)
        ∙ ap₂ (λ (a : Reply) (l : List Reply). if_answer a ++ l) (sym (closes_between us f) ∙ ap (reply_to c) (sym flagged))
        (rest [] (unfold Flagless in tt) ∙ unfold after in ap (λ (d : Collector). only_answers (answers d bs)) (sym (opens c b e)))
    go false e rest =
        ap (λ (l : List ℕ). part_answers (closed_parts (cut l))) (sym (append_snoc us b bs)) ∙ rest (us ++ (b ∷ [])) (flagless_more us b f (eqb-false b flag e))
        ∙ ap₂ (λ (a : Reply) (d : Collector). if_answer a ++ only_answers (answers d bs)) (sym (silent c b e)) (unfold after in foldl-append next (cleared Open 0) us (b ∷ []))

-- before the first flag
closed_onto : (b : ℕ) (ps : List (List ℕ)) → drop 1 (closed_parts (onto b ps)) ≡ drop 1 (closed_parts ps)
closed_onto b [] = refl
closed_onto b (p ∷ []) = refl
closed_onto b (p ∷ q ∷ ps) = simp unary_clauses

pub as_fed : AsFed
unfolding cut answers end_to_end answers_between between_flags
as_fed [] = refl
as_fed (b ∷ bs) = go (eqb b flag) refl (as_fed bs)
  where
    lead_in : (t : Bool) → eqb b flag ≡ t → reply_to fresh b ≡ nothing
    lead_in true e = unfold reply_to answer_to taken closed reply in simp e
    lead_in false e = silent fresh b e

    go : (t : Bool) → eqb b flag ≡ t → part_answers (drop 1 (closed_parts (cut bs))) ≡ only_answers (answers fresh bs)
        → part_answers (drop 1 (closed_parts (cond t ([] ∷ cut bs) (onto b (cut bs))))) ≡ if_answer (reply_to fresh b) ++ only_answers (answers (next fresh b) bs)
    go true e rest =
        ap (λ (ps : List (List ℕ)). part_answers (drop 1 ps)) (closed_more [] bs) ∙ since bs [] (unfold Flagless in tt)
        ∙ ap₂ (λ (a : Reply) (d : Collector). if_answer a ++ only_answers (answers d bs)) (sym (lead_in true e)) (unfold after in sym (opens fresh b e))
    go false e rest =
        ap part_answers (closed_onto b (cut bs)) ∙ rest
        ∙ ap₂ (λ (a : Reply) (d : Collector). if_answer a ++ only_answers (answers d bs)) (sym (lead_in false e)) (fresh_other b (eqb-false b flag e))
