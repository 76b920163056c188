-- The states that a stream leads to.
-- Assumes nothing.
use mathlib.Core.Path.{◌≡◌, refl}
use mathlib.Core.Bool.{Bool, true, false, cond, ◌||◌}
use Prim.Native.Nat.{ℕ, ◌+◌, ◌-◌, ◌*◌, ◌≤◌}
use mathlib.Core.List.{List, [], ◌∷◌, foldl}
use native.Mathlib.Omega.{arith}
use lib.Dec.{eqb, ltb}
use lib.ListN.{take, get_or, set}
use borrow.Author.Tests.{le-ltb, ltb-true, ltb-false, eqb-false}
use Rattle.numbers.specs.Bits.{◌⊕◌}
use Rattle.fcs.specs.Fcs.{fcs}
use Rattle.framing.specs.Stuffing.{flag}
use Rattle.collecting.specs.declared.Phase.{Phase}
use Rattle.collecting.specs.declared.Phase.TheVariants.{LeadIn, Open, Escape, BadEscape, TooLong}
use Rattle.collecting.specs.declared.Answer.{Answer}
use Rattle.collecting.specs.declared.Answer.TheVariants.{None, Accepted, Refused}
use Rattle.collecting.specs.declared.Collector.{Collector}
use Rattle.collecting.specs.Step.{state_in, cleared, fresh, collected, unescaped, inside, checked, closed, taken, next, answer_to}
use Rattle.collecting.specs.Stretch.{Within}
use Rattle.collecting.specs.Stream.{after, answer_number, position}
use Rattle.collecting.specs.Claims.{Known, StatesKnown, NeverOver, FromOne}
use Rattle.collecting.proofs.Cases.{taken_within}

abbrev IsKnown : Collector → Type 0
IsKnown c = Known c.control.phase c.control.count c.control.stuffed c.room

known_within : (p : Phase) (c : Collector) → Known p c.control.count c.control.stuffed c.room → Within c.control
unfolding Known
known_within LeadIn c h = record { count = omega arith; stuffed = omega arith }
known_within Open c h = record { count = omega arith; stuffed = omega arith }
known_within Escape c h = record { count = omega arith; stuffed = omega arith }
known_within BadEscape c h = record { count = omega arith; stuffed = omega arith }
known_within TooLong c h = record { count = omega arith; stuffed = omega arith }

-- a byte collected was one stuffed byte or two
collected_known : (n at : ℕ) (room : List ℕ) (b : ℕ) → n ≤ 438 → n + 1 ≤ at → at ≤ 2 * (n + 1) → IsKnown (collected n at room b)
unfolding collected Known
collected_known n at room b h l m = go (ltb n 438) refl
  where
    go : (t : Bool) → ltb n 438 ≡ t → IsKnown (cond t (state_in Open (n + 1) at (set room n b)) (cleared TooLong at))
    go true e = omega (arith, ltb-true n 438 e)
    go false e = (refl, omega (arith, ltb-false n 438 e), omega arith, refl)

inside_known : (p : Phase) (c : Collector) (b : ℕ) → c.control.phase ≡ p → Known p c.control.count c.control.stuffed c.room → IsKnown (inside p c b)
unfolding inside unescaped Known
inside_known LeadIn c b e h = rw e h
inside_known Open c b e h = go (eqb b 0x7D)
  where
    go : (t : Bool) → IsKnown (cond t (state_in Escape c.control.count (c.control.stuffed + 1) c.room) (collected c.control.count (c.control.stuffed + 1) c.room b))
    go true = omega arith
    go false = collected_known c.control.count (c.control.stuffed + 1) c.room b (omega arith) (omega arith) (omega arith)
inside_known Escape c b e h = go (eqb b 0x5D || eqb b 0x5E)
  where
    go : (t : Bool) → IsKnown (cond t (collected c.control.count (c.control.stuffed + 1) c.room (b ⊕ 0x20)) (cleared BadEscape (c.control.stuffed + 1)))
    go true = collected_known c.control.count (c.control.stuffed + 1) c.room (b ⊕ 0x20) (omega arith) (omega arith) (omega arith)
    go false = (refl, omega arith, omega arith, refl)
inside_known BadEscape c b e h = rw e h
inside_known TooLong c b e h = rw e h

next_known : (c : Collector) (b : ℕ) → IsKnown c → IsKnown (next c b)
unfolding next Known
next_known c b h = go (eqb b flag)
  where
    go : (t : Bool) → IsKnown (cond t (cleared Open 0) (inside (taken c).control.phase (taken c) b))
    go true = omega arith
    go false = rw (taken_within c (known_within c.control.phase c h)) (inside_known c.control.phase c b refl h)

known_after : (bs : List ℕ) (c : Collector) → IsKnown c → IsKnown (foldl next c bs)
known_after [] c h = h
known_after (b ∷ bs) c h = known_after bs (next c b) (next_known c b h)

pub states_known : StatesKnown
unfolding after Known
states_known bs = known_after bs fresh (refl, refl, refl)

pub never_over : NeverOver
never_over bs =
    let c = after fresh bs in
    let w : Within c.control = known_within c.control.phase c (states_known bs) in
    simp (le-ltb 438 c.control.count w.count, le-ltb 878 c.control.stuffed w.stuffed)

closed_one : (p : Phase) (n at : ℕ) (room : List ℕ) → Known p n at room → 1 ≤ answer_number (closed p n at room) → 1 ≤ position (closed p n at room)
unfolding closed checked Known
closed_one LeadIn n at room h = λ e. e
closed_one Open n at room h = go (eqb n 0) refl (ltb n 3) (eqb (fcs (take (n - 2) room)) (256 * get_or room (n - 2 + 1) 0 + get_or room (n - 2) 0))
  where
    go : (t : Bool) → eqb n 0 ≡ t → (u v : Bool) → 1 ≤ answer_number (cond t None (cond u (Refused 4 at) (cond v (Accepted (n - 2)) (Refused 5 at))))
        → 1 ≤ position (cond t None (cond u (Refused 4 at) (cond v (Accepted (n - 2)) (Refused 5 at))))
    go true f u v e = e
    go false f true v e = omega (arith, eqb-false n 0 f)
    go false f false true e = e
    go false f false false e = omega (arith, eqb-false n 0 f)
closed_one Escape n at room h = λ e. omega arith
closed_one BadEscape n at room h = λ e. omega arith
closed_one TooLong n at room h = λ e. omega arith

pub from_one : FromOne
unfolding answer_to
from_one bs b =
    let c = after fresh bs in
    go _ (eqb b flag) (rw (taken_within c (known_within c.control.phase c (states_known bs)))
    (closed_one c.control.phase c.control.count c.control.stuffed c.room (states_known bs)))
  where
    go : (a : Answer) (t : Bool) → (1 ≤ answer_number a → 1 ≤ position a) → 1 ≤ answer_number (cond t a None) → 1 ≤ position (cond t a None)
    go a true h = h
    go a false h = λ e. e
