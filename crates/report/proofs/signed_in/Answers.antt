-- `report::signed_in` meets its contract.
-- Assumes nothing.
use mathlib.Core.Path.{ap, ◌∙◌}
use Prim.Native.Nat.{ℕ, ◌-◌}
use native.Mathlib.Omega.{arith}
use mir.Syntax.{w32}
use mir.Val.{to_z}
use Rattle.numbers.proofs.Signed.{low, high}
use Rattle.report.proofs.signed_in.Goals as goal

pub returns-then-field-half : goal.returns-then-field-half
returns-then-field-half c = low w32 _ _ c.if-field-half.true (omega (arith, c.requires.half_bound))

pub returns : goal.returns
returns c = ap (λ (d : ℕ). to_z w32 (4294967295 - d)) c.saturating_sub.ensures ∙ high w32 _ _ c.if-field-half.false (omega (arith, c.requires.half_bound))
