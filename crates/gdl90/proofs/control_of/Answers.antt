-- `gdl90::control_of` meets its contract.
-- Assumes nothing.
use mathlib.Core.Path.{◌≡◌, ap, ◌∙◌}
use Prim.Native.Nat.{ℕ, ◌≤◌}
use native.Mathlib.Omega.{arith}
use borrow.Author.Tests.{le-leb, lt-leb}
use Rattle.collecting.specs.declared.Phase.{Phase}
use Rattle.collecting.specs.declared.Phase.TheVariants.{LeadIn, Open, Escape, BadEscape, TooLong}
use Rattle.collecting.specs.declared.Control.{Control}
use Rattle.collecting.specs.Step.{phase_number}
use Rattle.gdl90.specs.Collecting.{phase_of, control_of}
use Rattle.gdl90.proofs.control_of.Goals as goal

numbered : (p : Phase) (n : ℕ) → phase_number p ≡ n → (n ≤ 4) × (p ≡ phase_of n)
unfolding phase_of
numbered LeadIn n e = (omega arith, ap phase_of e)
numbered Open n e = (omega arith, ap phase_of e)
numbered Escape n e = (omega arith, ap phase_of e)
numbered BadEscape n e = (omega arith, ap phase_of e)
numbered TooLong n e = (omega arith, ap phase_of e)

pub returns-in_default : goal.returns-in_default
unfolding control_of
returns-in_default c = simp (lt-leb _ 4 c.in_default.ensures.1)

pub returns : goal.returns
unfolding control_of
returns c =
    let a = c.args.control in
    let k = numbered c.in-Ok.phase a.phase c.in-Ok.ensures in
    ap {B = Control} (λ (p : Phase). record { count = a.count; stuffed = a.stuffed; phase = p }) k.1 ∙ simp (le-leb a.phase 4 k.0)
