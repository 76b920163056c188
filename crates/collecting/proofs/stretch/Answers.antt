-- `collecting::stretch` meets its contract, by the phase.
-- Assumes nothing.
use mathlib.Core.Path.{sym, subst}
use Prim.Native.Nat.{ℕ}
use Rattle.collecting.specs.Step.{held}
use Rattle.collecting.specs.Stretch.{Passed}
use Rattle.collecting.proofs.Cases.{stays}
use Rattle.collecting.proofs.Filling.{passed_none, passed_stuck}
use Rattle.collecting.proofs.stretch.Goals as goal

pub returns-in-Escape : goal.returns-in-Escape
returns-in-Escape c = record { within = c.requires; passed = passed_none }

pub returns-in_default : goal.returns-in_default
returns-in_default c =
    let a = c.args in
    let s = held a.control a.room.now in
    let h = c.requires in
    record { within = h; passed = subst (λ (k : ℕ). Passed s a.bytes.now k s) (sym c.before_flag.ensures) (passed_stuck s a.bytes.now h (stays a.control.phase c.in_default.not-Open c.in_default.not-Escape s)) }
