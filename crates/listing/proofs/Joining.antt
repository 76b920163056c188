-- The listing of a whole input from its stretches.
-- Assumes nothing.
use mathlib.Core.Path.{◌≡◌, refl, ap, ◌∙◌, subst}
use mathlib.Core.Bool.{Bool, true, false, cond}
use mathlib.Core.List.{List, [], ◌∷◌, ◌++◌}
use Prim.Native.Nat.{ℕ, suc, ◌+◌, ◌-◌, ◌≤◌}
use native.Mathlib.Omega.{arith}
use lib.Dec.{ltb, leb}
use lib.ListN.{length, take, drop, length-take}
use lib.Seq.{sets-eq, take-append_seam, length-take-le, take-take, take-add, take-nil}
use borrow.Author.Tests.{ltb-true, lt-ltb, le-leb}
use Rattle.numbers.specs.Lent.{Stored}
use Rattle.listing.specs.declared.Processed.{Processed}
use Rattle.listing.specs.Listing.{limit, longest, State, state, opening, start, counted, advanced, text_of, reached, texts, listing, Sane, steady, taken_of, Processes}
use Rattle.listing.specs.Stretches.{Calls, stop, full, call}
use Rattle.listing.specs.Claims.{Joined, Moves}
use Rattle.listing.proofs.Steps.{sane_opening, steady_sane, settled_sane, reached-append, texts-append, reached_taken, sane_reached}

-- what is stored at the front of a list that is long enough is read there
front : {out left text : List ℕ} {n : ℕ} → Stored out 0 text n left → n ≤ length out → take n left ≡ text
front {out} {left} {text} {n} p h =
    let m : n ≡ length text = omega (arith, p.ends) in
    rw (m, p.leaves, sets-eq text out 0 (omega arith)) (take-append_seam text (drop (0 + length text) out))

few_by : (t u : Bool) (k n : ℕ) → (t ≡ true → suc k ≤ n) → cond t (cond u (suc k) 0) 0 ≤ n
few_by true true k n f = f refl
few_by true false k n f = omega arith
few_by false u k n f = omega arith

-- no more bytes are taken than there are below the limit
taken_few : (s : State) (bs : List ℕ) (room : ℕ) → taken_of s bs room ≤ limit - s.lister.taken
unfolding taken_of advanced counted
taken_few s [] room = omega arith
taken_few s (b ∷ bs) room =
    few_by (ltb s.lister.taken limit) (leb longest room) (taken_of (advanced s b) bs (room - length (text_of s b))) (limit - s.lister.taken)
    (λ e. omega (arith, ltb-true s.lister.taken limit e, taken_few (advanced s b) bs (room - length (text_of s b))))

-- the first bytes up to the limit, from those that a call takes on
limited : (s : State) (bs : List ℕ) (n : ℕ) → n ≤ length bs → n ≤ limit - s.lister.taken
    → take (limit - s.lister.taken) bs ≡ take n bs ++ take (limit - (reached s (take n bs)).lister.taken) (drop n bs)
limited s bs n h g =
    let e : limit - s.lister.taken ≡ n + (limit - (reached s (take n bs)).lister.taken) = omega (arith, reached_taken s (take n bs), length-take-le n bs h) in
    rw e (take-add n (limit - (reached s (take n bs)).lister.taken) bs)

-- what a call on the first k bytes took, and what it wrote
record Front (s : State) (bs left room : List ℕ) (r : Processed) : Type 0 where
  within : r.taken ≤ length bs
  few : r.taken ≤ limit - s.lister.taken
  state : state r.lister room ≡ reached s (take r.taken bs)
  text : take r.written left ≡ texts s (take r.taken bs)

front_of : (s : State) (bs out left room : List ℕ) (r : Processed) (k : ℕ) → Processes s (take k bs) out r room left → Front s bs left room r
front_of s bs out left room r k p =
    let e : take r.taken (take k bs) ≡ take r.taken bs = take-take r.taken k bs (omega (arith, length-take k bs, p.within)) in
    record {
      within = omega (arith, length-take k bs, p.within);
      few = omega (arith, p.count, taken_few s (take k bs) (length out));
      state = p.state ∙ ap (λ (l : List ℕ). reached s l) e;
      text = front p.text (omega (arith, p.fits, p.same)) ∙ ap (λ (l : List ℕ). texts s l) e;
    }

Ends : State → List ℕ → List ℕ → State → Type 0
Ends s bs text s' = (text ≡ texts s (take (limit - s.lister.taken) bs)) × (s' ≡ reached s (take (limit - s.lister.taken) bs))

ends_stop : (s : State) → Ends s [] [] s
unfolding Ends reached texts
ends_stop s = rw (take-nil {A = ℕ} (limit - s.lister.taken)) (refl, refl)

ends_full : (s : State) (bs : List ℕ) → limit ≤ s.lister.taken → Ends s bs [] s
unfolding Ends reached texts
ends_full s bs h =
    let e : limit - s.lister.taken ≡ 0 = omega arith in
    rw e (refl, refl)

ends_call : (s s' : State) (bs left room rest : List ℕ) (r : Processed) → Front s bs left room r → Ends (state r.lister room) (drop r.taken bs) rest s'
    → Ends s bs (take r.written left ++ rest) s'
unfolding Ends
ends_call s s' bs left room rest r p q =
    let e = limited s bs r.taken p.within p.few in
    let u : State = reached s (take r.taken bs) in
    let v : List ℕ = take (limit - u.lister.taken) (drop r.taken bs) in
    let q' : (rest ≡ texts u v) × (s' ≡ reached u v) = subst (λ (z : State). (rest ≡ texts z (take (limit - z.lister.taken) (drop r.taken bs))) × (s' ≡ reached z (take (limit - z.lister.taken) (drop r.taken bs)))) p.state q in (
      rw (e, texts-append s (take r.taken bs) v) (cc (p.text, q'.0)),
      rw (e, reached-append s (take r.taken bs) v) q'.1,
    )

sane_front : (s : State) (bs left room : List ℕ) (r : Processed) → Sane s.lister → Front s bs left room r → Sane r.lister
sane_front s bs left room r w p =
    let e : r.lister ≡ (reached s (take r.taken bs)).lister = ap (λ (z : State). z.lister) p.state in
    rw e (sane_reached s (take r.taken bs) w (omega (arith, p.few, w.few, length-take-le r.taken bs p.within)))

ends : {s s' : State} {bs text : List ℕ} → Calls s bs text s' → Sane s.lister → Ends s bs text s'
ends (stop {s}) w = ends_stop s
ends (full {s} {bs} h) w = ends_full s bs h
ends (call {s} {s'} {bs} {out} {left} {room} {rest} {r} k p q) w =
    let f : Front s bs left room r = front_of s bs out left room r k (rw (settled_sane s w) at p) in
    ends_call s s' bs left room rest r f (ends q (sane_front s bs left room r w f))

-- the state that the calls lead to is that of the input, up to the limit
pub last_state : (bs text : List ℕ) (s : State) → Calls start bs text s
    → (text ≡ texts start (take limit bs)) × (steady s.lister ≡ (reached start (take limit bs)).lister)
unfolding Ends start opening
last_state bs text s q =
    let e : Ends start bs text s = ends q sane_opening in
    let w : Sane (reached start (take limit bs)).lister = sane_reached start (take limit bs) sane_opening (omega (arith, length-take limit bs)) in
    (e.0, rw e.1 (steady_sane (reached start (take limit bs)).lister w))

pub joined : Joined
unfolding listing
joined bs text s q =
    let e = last_state bs text s q in
    rw (e.0, e.1)

pub moves : Moves
unfolding taken_of
moves s b bs room l r = simp (lt-ltb s.lister.taken limit l, le-leb longest room r) (omega arith)
