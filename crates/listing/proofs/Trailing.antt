-- The last line has the lead-in and the trail of the input; and whether there was a flag.
-- Assumes nothing.
use mathlib.Core.Path.{◌≡◌, refl, ◌∙◌}
use mathlib.Core.Bool.{Bool, true, false}
use mathlib.Core.List.{List, [], ◌∷◌}
use Prim.Native.Nat.{ℕ, suc, ◌+◌, ◌-◌, ◌≤◌, ◌<◌}
use lib.ListN.{length, take}
use native.Mathlib.Omega.{arith}
use lib.Dec.{eqb}
use borrow.Author.Tests.{eq-eqb, ne_eqb}
use Rattle.framing.specs.Stuffing.{flag}
use Rattle.listing.specs.declared.Lister.{Lister}
use Rattle.listing.specs.Listing.{limit, State, opening, start, counted, advanced, reached}
use Rattle.collecting.specs.Stream.{unflagged}
use Rattle.listing.specs.Stretches.{trail_by, trail}
use Rattle.listing.specs.Claims.{BothEnds, FlagSeen}
use Rattle.listing.proofs.Steps.{reached_taken}
use Rattle.listing.proofs.Joining.{last_state}

-- after a flag, with n bytes behind it
pub record Inside (l : Lister) (n : ℕ) : Type 0 where
  pub flagged : l.lead < l.taken
  pub behind : l.taken ≡ l.after + n

pub inside_flag : (s : State) (b : ℕ) → s.lister.lead ≤ s.lister.taken → eqb b flag ≡ true → (Inside (advanced s b).lister 0) × ((advanced s b).lister.lead ≡ s.lister.lead)
unfolding advanced counted
inside_flag s b h e = rw e (record { flagged = omega arith; behind = omega arith }, refl)

inside_other : (s : State) (b n : ℕ) → Inside s.lister n → eqb b flag ≡ false → (Inside (advanced s b).lister (suc n)) × ((advanced s b).lister.lead ≡ s.lister.lead)
unfolding advanced counted
inside_other s b n w e =
    rw (e, ne_eqb s.lister.lead s.lister.taken (λ p. omega (arith, w.flagged)))
    (record { flagged = omega (arith, w.flagged); behind = omega (arith, w.behind) }, refl)

Tail : State → State → ℕ → Type 0
Tail s s' n = (s'.lister.lead ≡ s.lister.lead) × (s'.lister.taken - s'.lister.after ≡ n)

inside_by : (s : State) (b : ℕ) (bs : List ℕ) (n : ℕ) → Inside s.lister n
    → ((m : ℕ) → Inside (advanced s b).lister m → Tail (advanced s b) (reached (advanced s b) bs) (trail_by m bs))
    → (t : Bool) → eqb b flag ≡ t → Tail s (reached s (b ∷ bs)) (trail_by n (b ∷ bs))
unfolding Tail trail_by reached
inside_by s b bs n w ih true e =
    let f = inside_flag s b (omega (arith, w.flagged)) e in
    let g = ih 0 f.0 in
    rw e (g.0 ∙ f.1, g.1)
inside_by s b bs n w ih false e =
    let f = inside_other s b n w e in
    let g = ih (suc n) f.0 in
    rw e (g.0 ∙ f.1, g.1)

inside_tail : (s : State) (bs : List ℕ) (n : ℕ) → Inside s.lister n → Tail s (reached s bs) (trail_by n bs)
unfolding Tail trail_by reached
inside_tail s [] n w = (refl, omega (arith, w.behind))
inside_tail s (b ∷ bs) n w = inside_by s b bs n w (λ m. inside_tail (advanced s b) bs m) (eqb b flag) refl

-- before the first flag
record Outside (l : Lister) : Type 0 where
  all : l.lead ≡ l.taken
  none : l.after ≡ l.taken

Whole : State → State → ℕ → ℕ → Type 0
Whole s s' l n = (s'.lister.lead ≡ s.lister.lead + l) × (s'.lister.taken - s'.lister.after ≡ n)

outside_other : (s : State) (b : ℕ) → Outside s.lister → eqb b flag ≡ false → (Outside (advanced s b).lister) × ((advanced s b).lister.lead ≡ s.lister.lead + 1)
unfolding advanced counted
outside_other s b w e = rw (e, eq-eqb s.lister.lead s.lister.taken w.all) (record { all = refl; none = refl }, omega (arith, w.all))

outside_by : (s : State) (b : ℕ) (bs : List ℕ) → Outside s.lister
    → (Outside (advanced s b).lister → Whole (advanced s b) (reached (advanced s b) bs) (unflagged bs) (trail bs))
    → (t : Bool) → eqb b flag ≡ t → Whole s (reached s (b ∷ bs)) (unflagged (b ∷ bs)) (trail (b ∷ bs))
unfolding Whole Tail unflagged trail reached
outside_by s b bs w ih true e =
    let f = inside_flag s b (omega (arith, w.all)) e in
    let g = inside_tail (advanced s b) bs 0 f.0 in
    rw e (omega (arith, g.0, f.1), g.1)
outside_by s b bs w ih false e =
    let f = outside_other s b w e in
    let g = ih f.0 in
    rw e (omega (arith, g.0, f.1), g.1)

outside_whole : (s : State) (bs : List ℕ) → Outside s.lister → Whole s (reached s bs) (unflagged bs) (trail bs)
unfolding Whole unflagged trail reached
outside_whole s [] w = (omega arith, omega (arith, w.none))
outside_whole s (b ∷ bs) w = outside_by s b bs w (outside_whole (advanced s b) bs) (eqb b flag) refl

whole : (bs : List ℕ) → Whole start (reached start bs) (unflagged bs) (trail bs)
unfolding start opening
whole bs = outside_whole start bs (record { all = refl; none = refl })

pub lead_is : (bs : List ℕ) → (reached start bs).lister.lead ≡ unflagged bs
unfolding Whole start opening
lead_is bs = omega (arith, (whole bs).0)

pub both_ends : BothEnds
unfolding Whole
both_ends bs = rw (lead_is bs, (whole bs).1)

taken_is : (bs : List ℕ) → (reached start bs).lister.taken ≡ length bs
unfolding start opening
taken_is bs = omega (arith, reached_taken start bs)

pub flag_seen : FlagSeen
flag_seen bs text s q = rw ((last_state bs text s q).1, lead_is (take limit bs), taken_is (take limit bs))
