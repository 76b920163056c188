-- `gdl90::gdl90_degrees` meets its contract: what `units::in_degrees` answers.
-- Assumes nothing.
use mathlib.Core.Path.{◌≡◌, sym, ap, ◌∙◌, subst}
use native.Mathlib.Omega.{arith}
use lib.IntN.{ℤ}
use mir.Syntax.{w32}
use mir.Val.{SFits, to_z, of_z}
use mir.Facts.{to_z-of_z}
use Rattle.std.specs.Prelude.{Result, Ok, Err}
use Rattle.refusals.specs.declared.Refusal.{Refusal}
use Rattle.units.specs.declared.Degrees.{Degrees}
use Rattle.refusals.specs.Numbers.{refusal_number}
use Rattle.units.specs.Degrees.{in_degrees, ExactlyAt}
use Rattle.units.proofs.Exact.{exact_degrees}
use Rattle.gdl90.specs.Degrees.{degrees_answer, ExactAnswer}
use Rattle.gdl90.proofs.gdl90_degrees.Goals as goal

-- the answer is the definition's, and so exact
exact : (a o : ℤ) {d : Result Degrees Refusal} → SFits w32 a → SFits w32 o → d ≡ in_degrees (to_z w32 (of_z w32 a)) (to_z w32 (of_z w32 o))
    → ExactAnswer a o (degrees_answer d)
unfolding ExactlyAt
exact a o {d} l r e =
    let f : d ≡ in_degrees a o = simp (to_z-of_z l, to_z-of_z r) at e in
    told d (subst (ExactlyAt a o) (sym f) (exact_degrees a o))
  where
    told : (d : Result Degrees Refusal) → ExactlyAt a o d → ExactAnswer a o (degrees_answer d)
    told (Ok x) h z = h
    told (Err e) h z = let k : refusal_number e ≡ 8 = ap refusal_number h in absurd (omega arith)

pub returns-in-Ok-clause-exact : goal.returns-in-Ok-clause-exact
returns-in-Ok-clause-exact c =
    exact c.args.latitude c.args.longitude {d = Ok c.in-Ok.d} c.ranges.latitude c.ranges.longitude (sym c.in-Ok.is ∙ c.in_degrees.ensures.value)

pub returns-in-Err-clause-exact : goal.returns-in-Err-clause-exact
returns-in-Err-clause-exact c =
    rw c.number.ensures
    (exact c.args.latitude c.args.longitude {d = Err c.in-Err.refusal} c.ranges.latitude c.ranges.longitude (sym c.in-Err.is ∙ c.in_degrees.ensures.value))
