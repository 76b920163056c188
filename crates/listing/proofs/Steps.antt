-- The state, and the text that bytes add.
-- Assumes nothing.
use mathlib.Core.Path.{◌≡◌, refl, sym, ap, ◌∙◌}
use mathlib.Core.Bool.{Bool, true, false, cond}
use mathlib.Core.List.{List, [], ◌∷◌, ◌++◌, append_assoc, append-nil}
use Prim.Native.Nat.{ℕ, suc, ◌+◌, ◌-◌, ◌≤◌, ◌<◌}
use native.Mathlib.Nat.{zero-add, sub-zero}
use native.Mathlib.Numerals.{add-one}
use native.Mathlib.Omega.{arith}
use lib.Dec.{eqb, ltb, leb}
use lib.ListN.{length, take, drop, get_or, drop_of_length-le}
use lib.Seq.{take-suc, drop-cons}
use borrow.Author.Tests.{lt-ltb, le-ltb, le-leb, lt-leb, leb-true}
use Rattle.numbers.specs.Lent.{Stored}
use Rattle.numbers.proofs.Storing.{stored-length, then}
use Rattle.numbers.proofs.Every.{both}
use Rattle.framing.specs.Stuffing.{flag}
use Rattle.collecting.specs.declared.Control.{Control}
use Rattle.collecting.specs.declared.Stepped.{Stepped}
use Rattle.collecting.specs.declared.Collected.{Collected}
use Rattle.collecting.specs.Step.{next, answer_to, stepped, left}
use Rattle.collecting.specs.Stream.{Reply, reply, is_answered}
use Rattle.collecting.proofs.Ranging.{any_message}
use Rattle.listing.specs.declared.Lister.{Lister}
use Rattle.listing.specs.Listing.{limit, longest, State, state, collector, opening, start, reply_line, text_of, counted, advanced, reached, texts, holds, Sane, steady, settled, taken_of, Processes}

pub sane_opening : Sane opening
unfolding opening
sane_opening = record { few = omega arith; lines_few = omega arith; lead_few = omega arith; after_few = omega arith }

pub sane_start : (l : Lister) (room : List ℕ) → state l room ≡ start → Sane l
unfolding start
sane_start l room e =
    let f : l ≡ opening = ap (λ (s : State). s.lister) e in
    rw f sane_opening

pub sane_holds : (l : Lister) → holds l ≡ true → Sane l
sane_holds l e =
    let a = both (leb l.taken limit) _ e in
    let b = both (leb l.lines l.taken) _ a.1 in
    let c = both (leb l.lead l.taken) _ b.1 in
    record { few = leb-true _ _ a.0; lines_few = leb-true _ _ b.0; lead_few = leb-true _ _ c.0; after_few = leb-true _ _ c.1 }

holds_sane : (l : Lister) → Sane l → holds l ≡ true
holds_sane l w = simp (le-leb _ _ w.few, le-leb _ _ w.lines_few, le-leb _ _ w.lead_few, le-leb _ _ w.after_few)

pub steady_sane : (l : Lister) → Sane l → steady l ≡ l
unfolding steady
steady_sane l w = rw (holds_sane l w)

pub settled_sane : (s : State) → Sane s.lister → settled s ≡ s
unfolding settled
settled_sane s w = rw (holds_sane s.lister w)

chosen_le : (t : Bool) (a b n : ℕ) → a ≤ n → b ≤ n → cond t a b ≤ n
chosen_le true a b n p q = p
chosen_le false a b n p q = q

sane_counted : (l : Lister) (b : ℕ) (c : Control) (t : Bool) → Sane l → l.taken < limit → Sane (counted l b c t)
unfolding counted
sane_counted l b c t w h = record {
  few = omega arith;
  lines_few = chosen_le t (l.lines + 1) l.lines (l.taken + 1) (omega (arith, w.lines_few)) (omega (arith, w.lines_few));
  lead_few = chosen_le (eqb b flag) _ _ _ (omega (arith, w.lead_few)) (grown l.lead w.lead_few);
  after_few = chosen_le (eqb b flag) _ _ _ (omega arith) (grown l.after w.after_few);
}
  where
    grown : (n : ℕ) → n ≤ l.taken → cond (eqb l.lead l.taken) (l.taken + 1) n ≤ l.taken + 1
    grown n g = chosen_le (eqb l.lead l.taken) (l.taken + 1) n (l.taken + 1) (omega arith) (omega arith)

pub sane_advanced : (s : State) (b : ℕ) → Sane s.lister → s.lister.taken < limit → Sane (advanced s b).lister
unfolding advanced
sane_advanced s b w h = sane_counted s.lister b (next (collector s) b).control (is_answered (answer_to (collector s) b)) w h

-- a step of collecting, taken apart
module _ (s : State) (b : ℕ) (t : Stepped) (room shown before : List ℕ) (e : left t room shown ≡ stepped (collector s) before b) where
  pub answer_is : t.answer ≡ answer_to (collector s) b
  unfolding stepped
  answer_is = ap (λ (c : Collected). c.answer) e

  pub state_is : (l : Lister) → l ≡ counted s.lister b t.control (is_answered t.answer) → state l room ≡ advanced s b
  unfolding advanced stepped
  state_is l p =
      ap (λ (z : Lister). state z room) p
      ∙ ap (λ (c : Collected). state (counted s.lister b c.state.control (is_answered c.answer)) c.state.room) e

  pub text_is : reply_line s.lister (reply t.answer shown) ≡ text_of s b
  unfolding text_of stepped
  text_is =
      ap (λ (c : Collected). reply_line s.lister (reply c.answer c.message)) e
      ∙ ap (λ (r : Reply). reply_line s.lister r) (any_message (collector s) b before)

pub reached-append : (s : State) (a b : List ℕ) → reached s (a ++ b) ≡ reached (reached s a) b
unfolding reached
reached-append s [] b = refl
reached-append s (x ∷ a) b = reached-append (advanced s x) a b

pub texts-append : (s : State) (a b : List ℕ) → texts s (a ++ b) ≡ texts s a ++ texts (reached s a) b
unfolding reached texts
texts-append s [] b = refl
texts-append s (x ∷ a) b = ap (λ (l : List ℕ). text_of s x ++ l) (texts-append (advanced s x) a b) ∙ sym (append_assoc (text_of s x) (texts (advanced s x) a) (texts (reached (advanced s x) a) b))

-- the state counts the bytes
pub reached_taken : (s : State) (bs : List ℕ) → (reached s bs).lister.taken ≡ s.lister.taken + length bs
unfolding reached advanced counted
reached_taken s [] = omega arith
reached_taken s (b ∷ bs) = reached_taken (advanced s b) bs ∙ omega arith

-- within the limit no state on the way is taken as that at the start
pub sane_reached : (s : State) (bs : List ℕ) → Sane s.lister → s.lister.taken + length bs ≤ limit → Sane (reached s bs).lister
unfolding reached advanced counted
sane_reached s [] w h = w
sane_reached s (b ∷ bs) w h = sane_reached (advanced s b) bs (sane_advanced s b w (omega arith)) (omega arith)

reached_more : (s : State) (bs : List ℕ) (i : ℕ) → i < length bs → reached s (take (i + 1) bs) ≡ advanced (reached s (take i bs)) (get_or bs i 0)
unfolding reached
reached_more s bs i h = rw (add-one, take-suc bs i 0) (reached-append s (take i bs) (get_or bs i 0 ∷ []))

texts_more : (s : State) (bs : List ℕ) (i : ℕ) → i < length bs → texts s (take (i + 1) bs) ≡ texts s (take i bs) ++ text_of (reached s (take i bs)) (get_or bs i 0)
unfolding texts
texts_more s bs i h =
    rw (add-one, take-suc bs i 0)
    (texts-append s (take i bs) (get_or bs i 0 ∷ []) ∙ ap (λ (l : List ℕ). texts s (take i bs) ++ l) (append-nil (text_of (reached s (take i bs)) (get_or bs i 0))))

pub taken_end : (s : State) (bs : List ℕ) (i room : ℕ) → length bs ≤ i → taken_of s (drop i bs) room ≡ 0
unfolding taken_of
taken_end s bs i room h = rw (drop_of_length-le bs h)

pub taken_limit : (s : State) (bs : List ℕ) (room : ℕ) → limit ≤ s.lister.taken → taken_of s bs room ≡ 0
unfolding taken_of
taken_limit s [] room h = refl
taken_limit s (b ∷ bs) room h = simp (le-ltb s.lister.taken limit h)

pub taken_room : (s : State) (bs : List ℕ) (room : ℕ) → room < longest → taken_of s bs room ≡ 0
unfolding taken_of
taken_room s [] room h = refl
taken_room s (b ∷ bs) room h = simp (lt-leb longest room h) (none (ltb s.lister.taken limit))
  where
    none : (t : Bool) → ◌≡◌ {A = ℕ} (cond t 0 0) 0
    none true = refl
    none false = refl

taken_more : (s : State) (bs : List ℕ) (i room : ℕ) → i < length bs → s.lister.taken < limit → longest ≤ room
    → taken_of s (drop i bs) room ≡ suc (taken_of (advanced s (get_or bs i 0)) (drop (i + 1) bs) (room - length (text_of s (get_or bs i 0))))
unfolding taken_of
taken_more s bs i room h l r = rw (add-one, drop-cons bs i 0) (simp (lt-ltb s.lister.taken limit l, le-leb longest room r))

same_room : (s : State) (bs : List ℕ) (i n at next : ℕ) → next ≡ at + length (text_of s (get_or bs i 0))
    → taken_of (advanced s (get_or bs i 0)) (drop (i + 1) bs) (n - at - length (text_of s (get_or bs i 0))) ≡ taken_of (advanced s (get_or bs i 0)) (drop (i + 1) bs) (n - next)
same_room s bs i n at next e = ap (λ (k : ℕ). taken_of (advanced s (get_or bs i 0)) (drop (i + 1) bs) k) (omega arith)

-- i bytes of bs are taken from s₀, and their text stands in out up to `at`
pub record Running (s₀ : State) (bs out₀ out : List ℕ) (s : State) (i at : ℕ) : Type 0 where
  pub sane : Sane s.lister
  pub state : s ≡ reached s₀ (take i bs)
  pub text : Stored out₀ 0 (texts s₀ (take i bs)) at out
  pub count : taken_of s₀ bs (length out₀) ≡ i + taken_of s (drop i bs) (length out₀ - at)
  pub within : i ≤ length bs
  pub room : at ≤ length out₀
  pub same : length out ≡ length out₀

pub running_start : (s : State) (bs out : List ℕ) → Sane s.lister → Running s bs out out s 0 0
unfolding reached texts
running_start s bs out w = record {
  sane = w;
  state = refl;
  text = record { ends = refl; leaves = refl };
  count = simp (zero-add, sub-zero);
  within = omega arith;
  room = omega arith;
  same = refl;
}

pub running_stop : {s₀ s₁ : State} {bs out₀ out : List ℕ} {l : Lister} {room : List ℕ} {i at : ℕ} → s₀ ≡ s₁ → Running s₀ bs out₀ out (state l room) i at
    → taken_of (state l room) (drop i bs) (length out₀ - at) ≡ 0 → Processes s₁ bs out₀ (record { lister = l; taken = i; written = at }) room out
running_stop {i = i} {at = at} e₀ w e =
    rw (← e₀)
    (record { count = omega (arith, w.count); state = w.state; text = w.text; within = w.within; fits = omega (arith, w.room, w.same); same = w.same })

pub running_more : {s₀ : State} {bs out₀ out after : List ℕ} {s s' : State} {i at next : ℕ} → Running s₀ bs out₀ out s i at
    → i < length bs → s.lister.taken < limit → at + longest ≤ length out₀
    → s' ≡ advanced s (get_or bs i 0) → Stored out at (text_of s (get_or bs i 0)) next after → next ≤ at + longest
    → Running s₀ bs out₀ after s' (i + 1) next
running_more {s₀} {bs} {out₀} {out} {after} {s} {s'} {i} {at} {next} w h l r e t f = record {
  sane = rw e (sane_advanced s (get_or bs i 0) w.sane l);
  state = e ∙ ap (λ (z : State). advanced z (get_or bs i 0)) w.state ∙ sym (reached_more s₀ bs i h);
  text = rw (texts_more s₀ bs i h, ← w.state) (then w.text t);
  count = w.count ∙ rw e (omega (arith, taken_more s bs i (length out₀ - at) h l (omega arith), same_room s bs i (length out₀) at next t.ends));
  within = omega arith;
  room = omega arith;
  same = stored-length t ∙ w.same;
}
