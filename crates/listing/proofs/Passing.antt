-- Bytes that are no flags: they have no line, and the lister after them is known at once.
-- Assumes nothing.
use mathlib.Core.Path.{◌≡◌, refl, sym, ap, ap₂, ◌∙◌}
use mathlib.Core.Bool.{Bool, true, false, cond, ◌&&◌}
use mathlib.Core.List.{List, [], ◌∷◌, ◌++◌, append-nil}
use Prim.Native.Nat.{ℕ, suc, ◌+◌, ◌-◌, ◌≤◌, min}
use native.Mathlib.Nat.{add-zero, sub-zero}
use native.Mathlib.Omega.{arith}
use lib.Dec.{eqb, ltb, leb}
use lib.ListN.{length, take, drop, take-append-drop, length-take, length-drop}
use lib.Seq.{length-take-le, take-take, take-add, drop-drop}
use borrow.Author.Tests.{eq-eqb, ne_eqb, lt-ltb, le-leb, ltb-false, leb-true, leb-false}
use Rattle.framing.specs.Stuffing.{flag, Flagless}
use Rattle.collecting.specs.declared.Control.{Control}
use Rattle.collecting.specs.declared.Collector.{Collector}
use Rattle.collecting.specs.Step.{held, next, answer_to}
use Rattle.collecting.specs.Stream.{reply, reply_to, after, unflagged}
use Rattle.collecting.proofs.Filling.{unflagged_most, unflagged_flagless}
use Rattle.listing.specs.declared.Lister.{Lister}
use Rattle.listing.specs.Listing.{limit, longest, State, state, collector, reply_line, text_of, counted, passed, advanced, reached, texts, taken_of}
use Rattle.listing.proofs.Steps.{reached-append, texts-append, reached_taken, sane_reached, taken_end, taken_limit, Running}

module _ (s : State) (b : ℕ) (n : b ≡ flag → ⊥) where
  textless : text_of s b ≡ []
  unfolding text_of reply_to answer_to reply reply_line
  textless = simp (ne_eqb b flag n)

  advanced_other : advanced s b ≡ state (passed s.lister 1 (next (collector s) b).control) (next (collector s) b).room
  unfolding advanced counted passed answer_to
  advanced_other = simp (ne_eqb b flag n)

passed_none : (l : Lister) → passed l 0 l.control ≡ l
unfolding passed
passed_none l = simp add-zero

-- `lead` and `after` move with the bytes as long as no flag has come
mark_more : (t lead n x : ℕ) → lead ≤ t
    → cond (ltb 0 n && eqb (cond (eqb lead t) (t + 1) lead) (t + 1)) (t + 1 + n) (cond (eqb lead t) (t + 1) x) ≡ cond (ltb 0 (suc n) && eqb lead t) (t + suc n) x
mark_more t lead n x h = simp (lt-ltb 0 (suc n) (omega arith)) (go (eqb lead t) refl (ltb 0 n) refl)
  where
    go : (u : Bool) → eqb lead t ≡ u → (v : Bool) → ltb 0 n ≡ v → cond (v && eqb (cond u (t + 1) lead) (t + 1)) (t + 1 + n) (cond u (t + 1) x) ≡ cond u (t + suc n) x
    go true e true f = simp (eq-eqb (t + 1) (t + 1) refl) (omega arith)
    go true e false f = omega (arith, ltb-false 0 n f)
    go false e true f = simp (ne_eqb lead (t + 1) (λ q. omega arith))
    go false e false f = refl

passed_more : (l : Lister) (n : ℕ) (c d : Control) → l.lead ≤ l.taken → passed (passed l 1 c) n d ≡ passed l (suc n) d
unfolding passed
passed_more l n c d h =
    let more : l.taken + 1 + n ≡ l.taken + suc n = omega arith in
    cc (mark_more l.taken l.lead n l.lead h, mark_more l.taken l.lead n l.after h)

passed_lead : (l : Lister) (c : Control) → l.lead ≤ l.taken → (passed l 1 c).lead ≤ l.taken + 1
unfolding passed
passed_lead l c h = go (eqb l.lead l.taken)
  where
    go : (t : Bool) → cond t (l.taken + 1) l.lead ≤ l.taken + 1
    go true = omega arith
    go false = omega arith

pub reached_flagless : (s : State) (bs : List ℕ) → s.lister.lead ≤ s.lister.taken → Flagless bs
    → reached s bs ≡ state (passed s.lister (length bs) (after (collector s) bs).control) (after (collector s) bs).room
unfolding reached after Flagless passed
reached_flagless s [] h f = ap (λ (l : Lister). state l s.room) (sym (passed_none s.lister))
reached_flagless s (b ∷ bs) h f =
    rw (advanced_other s b f.0)
    (reached_flagless (state (passed s.lister 1 (next (collector s) b).control) (next (collector s) b).room) bs (passed_lead s.lister (next (collector s) b).control h) f.1
    ∙ ap (λ (l : Lister). state l (after (collector s) (b ∷ bs)).room) (passed_more s.lister (length bs) (next (collector s) b).control (after (collector s) (b ∷ bs)).control h))

pub texts_flagless : (s : State) (bs : List ℕ) → Flagless bs → texts s bs ≡ []
unfolding texts Flagless
texts_flagless s [] f = refl
texts_flagless s (b ∷ bs) f = rw (textless s b f.0) (texts_flagless (advanced s b) bs f.1)

taken_flagless : (s : State) (bs cs : List ℕ) (room : ℕ) → Flagless bs → longest ≤ room → s.lister.taken + length bs ≤ limit
    → taken_of s (bs ++ cs) room ≡ length bs + taken_of (reached s bs) cs room
unfolding taken_of reached advanced counted Flagless
taken_flagless s [] cs room f r h = omega arith
taken_flagless s (b ∷ bs) cs room f r h =
    simp (lt-ltb s.lister.taken limit (omega arith), le-leb longest room r, textless s b f.0, sub-zero)
    (omega (arith, taken_flagless (advanced s b) bs cs room f.1 r (omega arith)))

-- what `fill` leaves is the state after the bytes that it took
pub passed_is : (s : State) (bs : List ℕ) (n : ℕ) (l : Lister) (c : Control) (room : List ℕ) → s.lister.lead ≤ s.lister.taken
    → n ≡ unflagged bs → held c room ≡ after (collector s) (take n bs) → l ≡ passed s.lister n c → state l room ≡ reached s (take n bs)
passed_is s bs n l c room h e p q =
    let size : n ≡ length (take n bs) = sym (length-take-le n bs (omega (arith, unflagged_most bs))) in
    ap (λ (z : Lister). state z room) q
    ∙ ap₂ (λ (d : Collector) (k : ℕ). state (passed s.lister k d.control) d.room) p size
    ∙ sym (reached_flagless s (take n bs) h (rw e (unflagged_flagless bs)))

-- the bytes before the first flag are taken
module _ {s₀ : State} {bs out₀ out : List ℕ} {s s' : State} {i at : ℕ} (n end : ℕ) (w : Running s₀ bs out₀ out s i at) (fits : at + longest ≤ length out₀) where
  running_flagless : Flagless (take n (drop i bs)) → i + n ≤ length bs → s.lister.taken + n ≤ limit → s' ≡ reached s (take n (drop i bs))
      → Running s₀ bs out₀ out s' (i + n) at
  running_flagless f g h e =
      let q = take n (drop i bs) in
      let size : length q ≡ n = length-take-le n (drop i bs) (omega (arith, length-drop i bs)) in
      let rest : drop i bs ≡ q ++ drop (i + n) bs = sym (take-append-drop n (drop i bs)) ∙ ap (λ (l : List ℕ). q ++ l) (drop-drop n i bs) in
      record {
        sane = rw e (sane_reached s q w.sane (omega arith));
        state = e ∙ ap (λ (z : State). reached z q) w.state ∙ sym (reached-append s₀ (take i bs) q) ∙ ap (reached s₀) (sym (take-add i n bs));
        text = rw (take-add i n bs, texts-append s₀ (take i bs) q, ← w.state, texts_flagless s q f, append-nil) w.text;
        count =
            w.count
            ∙ rw e
            (omega (arith, ap (λ (l : List ℕ). taken_of s l (length out₀ - at)) rest, taken_flagless s q (drop (i + n) bs) (length out₀ - at) f (omega arith) (omega arith)));
        within = g;
        room = w.room;
        same = w.same;
      }

  running_pass : i ≤ end → end ≤ length bs → s.lister.taken + (end - i) ≤ limit → n ≡ unflagged (take (end - i) (drop i bs))
      → s' ≡ reached s (take n (take (end - i) (drop i bs))) → (i + n ≤ end) × Running s₀ bs out₀ out s' (i + n) at
  running_pass a b h u e =
      let p = take (end - i) (drop i bs) in
      let most : n ≤ end - i = omega (arith, unflagged_most p, length-take (end - i) (drop i bs)) in
      let front : take n p ≡ take n (drop i bs) = take-take n (end - i) (drop i bs) most in
      (omega arith, running_flagless (rw (← front, u) (unflagged_flagless p)) (omega arith) (omega arith) (rw front at e))

module _ {s₀ : State} {bs out₀ out : List ℕ} {s : State} {i at : ℕ} (w : Running s₀ bs out₀ out s i at) where
  pub running_taken : s.lister.taken ≡ s₀.lister.taken + i
  running_taken = ap (λ (z : State). z.lister.taken) w.state ∙ reached_taken s₀ (take i bs) ∙ ap (λ (k : ℕ). s₀.lister.taken + k) (length-take-le i bs w.within)

  -- where the bytes end or the limit is reached, no more are taken
  pub taken_stop : (room : ℕ) → min (length bs) (limit - s₀.lister.taken) ≤ i → taken_of s (drop i bs) room ≡ 0
  taken_stop room h = go (leb (length bs) i) refl
    where
      go : (t : Bool) → leb (length bs) i ≡ t → taken_of s (drop i bs) room ≡ 0
      go true e = taken_end s bs i room (leb-true (length bs) i e)
      go false e = taken_limit s (drop i bs) room (omega (arith, running_taken, leb-false (length bs) i e))

-- of the bytes up to the limit, as many as are left are passed
pub pass_running : {s₀ : State} {bs out₀ out : List ℕ} {s s' : State} {i at : ℕ} (n end : ℕ) → Running s₀ bs out₀ out s i at → longest ≤ length out - at → i ≤ end
    → s₀.lister.taken ≤ limit → end ≡ min (length bs) (limit - s₀.lister.taken) → n ≡ unflagged (take (end - i) (drop i bs))
    → s' ≡ reached s (take n (take (end - i) (drop i bs))) → (i + n ≤ end) × Running s₀ bs out₀ out s' (i + n) at
pass_running n end w fits a few e u r = running_pass n end w (omega (arith, w.same)) a (omega arith) (omega (arith, running_taken w)) u r
