-- Bytes without a flag, one at a time and many at once.
-- Assumes nothing.
use mathlib.Core.Path.{◌≡◌, refl, sym, ap, ap₂, ◌∙◌, subst}
use mathlib.Core.Bool.{Bool, true, false, cond}
use Prim.Native.Nat.{ℕ, zero, suc, ◌+◌, ◌-◌, ◌≤◌, ◌<◌}
use mathlib.Core.List.{List, [], ◌∷◌, foldl-append}
use native.Mathlib.Omega.{arith}
use native.Mathlib.Numerals.{add-one}
use lib.Dec.{eqb}
use lib.ListN.{length, take, drop, get_or, set, drop_of_length-le, length-take, length-drop}
use lib.Seq.{take-add, take_all, drop-cons}
use borrow.Author.Tests.{eq-eqb, ne_eqb, eqb-false}
use Rattle.framing.specs.Stuffing.{flag, control_escape, Flagless}
use Rattle.collecting.specs.declared.Phase.TheVariants.{Open}
use Rattle.collecting.specs.declared.Collector.{Collector}
use Rattle.collecting.specs.Step.{state_in, inside, taken, next}
use Rattle.collecting.specs.Stream.{after, unflagged}
use Rattle.collecting.specs.Stretch.{Within, Passed}
use Rattle.collecting.proofs.Cases.{taken_within, inside_next, collected_room, open_other}
use Rattle.collecting.proofs.Holding.{stuck}
use Rattle.collecting.proofs.Ranging.{taken_most}

module _ (bs : List ℕ) (i : ℕ) where
  pub unflagged_end : length bs ≤ i → unflagged (drop i bs) ≡ 0
  unfolding unflagged
  unflagged_end h = rw (drop_of_length-le bs h)

  module _ (h : i < length bs) where
    pub unflagged_flag : get_or bs i 0 ≡ flag → unflagged (drop i bs) ≡ 0
    unfolding unflagged
    unflagged_flag e = rw (drop-cons bs i 0 h, eq-eqb (get_or bs i 0) flag e)

    pub unflagged_more : (get_or bs i 0 ≡ flag → ⊥) → unflagged (drop i bs) ≡ suc (unflagged (drop (i + 1) bs))
    unfolding unflagged
    unflagged_more n = rw (add-one, drop-cons bs i 0 h, ne_eqb (get_or bs i 0) flag n)

pub unflagged_most : (bs : List ℕ) → unflagged bs ≤ length bs
unfolding unflagged
unflagged_most [] = omega arith
unflagged_most (b ∷ bs) = go (eqb b flag) (unflagged_most bs)
  where
    go : (t : Bool) → unflagged bs ≤ length bs → cond t 0 (suc (unflagged bs)) ≤ suc (length bs)
    go true h = omega arith
    go false h = omega arith

pub unflagged_flagless : (bs : List ℕ) → Flagless (take (unflagged bs) bs)
unfolding unflagged Flagless
unflagged_flagless [] = tt
unflagged_flagless (b ∷ bs) = go (eqb b flag) refl (unflagged_flagless bs)
  where
    go : (t : Bool) → eqb b flag ≡ t → Flagless (take (unflagged bs) bs) → Flagless (take (cond t 0 (suc (unflagged bs))) (b ∷ bs))
    go true e h = tt
    go false e h = (eqb-false b flag e, h)

unflagged-drop : (k : ℕ) (bs : List ℕ) → k ≤ unflagged bs → unflagged bs ≡ k + unflagged (drop k bs)
unfolding unflagged
unflagged-drop zero bs h = omega arith
unflagged-drop (suc k) [] h = absurd (omega arith)
unflagged-drop (suc k) (b ∷ bs) h = go (eqb b flag) h (unflagged-drop k bs)
  where
    go : (t : Bool) → suc k ≤ cond t 0 (suc (unflagged bs)) → (k ≤ unflagged bs → unflagged bs ≡ k + unflagged (drop k bs))
        → cond t 0 (suc (unflagged bs)) ≡ suc k + unflagged (drop k bs)
    go true h f = absurd (omega arith)
    go false h f = omega (arith, f (omega arith))

-- no bytes; a byte; bytes and then others
pub passed_none : {c : Collector} {bs : List ℕ} → Passed c bs 0 c
unfolding after
passed_none = record { before = omega arith; state = refl }

passed_byte : (c : Collector) (b : ℕ) (bs : List ℕ) → Within c.control → (b ≡ flag → ⊥) → Passed c (b ∷ bs) 1 (inside c.control.phase c b)
unfolding after unflagged
passed_byte c b bs h n = record { before = simp (ne_eqb b flag n) (omega arith); state = inside_next c b h n }

passed_more : {c d e : Collector} {bs : List ℕ} {k j : ℕ} → Passed c bs k d → Passed d (drop k bs) j e → Passed c bs (k + j) e
unfolding after
passed_more {c} {d} {e} {bs} {k} {j} p q = record {
  before = omega (arith, unflagged-drop k bs p.before, q.before);
  state = q.state ∙ ap (λ (s : Collector). after s (take j (drop k bs))) p.state ∙ sym (foldl-append next c (take k bs) (take j (drop k bs)))
      ∙ ap (after c) (sym (take-add k j bs));
}

pub passed_one : {c d e : Collector} {bs : List ℕ} {k : ℕ} → Passed c bs k d → Within d.control → k < length bs → (get_or bs k 0 ≡ flag → ⊥)
    → e ≡ inside d.control.phase d (get_or bs k 0) → Passed c bs (k + 1) e
passed_one {c} {d} {e} {bs} {k} p w h n q =
    passed_more p
    (subst (λ (t : List ℕ). Passed d t 1 e) (sym (drop-cons bs k 0 h))
    (subst (Passed d (get_or bs k 0 ∷ drop (suc k) bs) 1) (sym q) (passed_byte d (get_or bs k 0) (drop (suc k) bs) w n)))

pub passed_all : {c d : Collector} {bs : List ℕ} {k : ℕ} → Passed c bs k d → unflagged (drop k bs) ≡ 0 → k ≡ unflagged bs
passed_all {bs = bs} {k = k} p e = omega (arith, e, unflagged-drop k bs p.before)

-- what a part from n on holds
pub rest : (bs : List ℕ) (n : ℕ) → take (length bs - n) (drop n bs) ≡ drop n bs
rest bs n = take_all (length bs - n) (drop n bs) (omega (arith, length-drop n bs))

pub passed_part : {c d e : Collector} {bs : List ℕ} {n k : ℕ} → Passed c bs n d → Passed d (take (length bs - n) (drop n bs)) k e → Passed c bs (n + k) e
passed_part {d = d} {e = e} {bs = bs} {n = n} {k = k} p q = passed_more p (subst (λ (t : List ℕ). Passed d t k e) (rest bs n) q)

-- plain bytes, between flags
counts : {room : List ℕ} {i j k l : ℕ} → i ≡ j → k ≡ l → state_in Open i k room ≡ state_in Open j l room
counts {room} e f = ap₂ (λ (n at : ℕ). state_in Open n at room) e f

module _ {n at : ℕ} {start bs : List ℕ} where
  pub plain_none : Passed (state_in Open n at start) bs 0 (state_in Open (n + 0) (at + 0) start)
  plain_none = subst (Passed (state_in Open n at start) bs 0) (counts (omega arith) (omega arith)) passed_none

  pub plain_one : {i : ℕ} {room : List ℕ} → Passed (state_in Open n at start) bs i (state_in Open (n + i) (at + i) room) → i < length bs → n + i < 438 → at + i < 878
      → (get_or bs i 0 ≡ control_escape → ⊥) → (get_or bs i 0 ≡ flag → ⊥)
      → Passed (state_in Open n at start) bs (i + 1) (state_in Open (n + (i + 1)) (at + (i + 1)) (set room (n + i) (get_or bs i 0)))
  plain_one {i} {room} p h l m e f =
      passed_one p (record { count = omega arith; stuffed = omega arith }) h f
      (counts (omega arith) (omega arith) ∙ collected_room (n + i) (at + i + 1) room (get_or bs i 0) l ∙ open_other (state_in Open (n + i) (at + i) room) (get_or bs i 0) refl e)

-- where a byte changes nothing, all before the flag pass
pub passed_stuck : (c : Collector) (bs : List ℕ) → Within c.control → ((b : ℕ) → inside c.control.phase c b ≡ c) → Passed c bs (unflagged bs) c
unfolding after
passed_stuck c bs h stays = record { before = omega arith; state = sym (stuck c h stays (take (unflagged bs) bs) (unflagged_flagless bs)) }

-- where a byte comes, a state is taken as one that is not over
after_taken : (c : Collector) (bs : List ℕ) → 1 ≤ length bs → after (taken c) bs ≡ after c bs
unfolding after next
after_taken c [] h = absurd (omega arith)
after_taken c (b ∷ bs) h = simp (taken_within (taken c) (taken_most c))

pub passed_taken : {c d e : Collector} {bs : List ℕ} {k : ℕ} → d ≡ taken c → 1 ≤ k → Passed d bs k e → Passed c bs k e
passed_taken {c} {d} {e} {bs} {k} t h p = record {
  before = p.before;
  state = p.state ∙ ap (λ (d : Collector). after d (take k bs)) t ∙ after_taken c (take k bs) (omega (arith, length-take k bs, unflagged_most bs, p.before));
}
