-- `report::field_of` meets its contract, by the sign.
-- Assumes nothing.
use mathlib.Core.Path.{◌≡◌, refl, ap, ◌∙◌}
use Prim.Native.Nat.{ℕ, ◌-◌, ◌*◌}
use native.Mathlib.Omega.{arith}
use lib.IntN.{ℤ, pos, negsuc, nat_abs}
use lib.Signed.{mag}
use mir.Syntax.{w32}
use mir.Facts.{to_z-of_z}
use Rattle.numbers.proofs.Signed.{negative, natural}
use Rattle.numbers.specs.Signed.{field_of}
use Rattle.report.proofs.field_of.Goals as goal

below_zero : (half : ℕ) (z : ℤ) → z ≡ negsuc (mag z) → 2 * half - nat_abs z ≡ field_of half z
unfolding field_of
below_zero half (negsuc k) e = omega arith
below_zero half (pos n) e = cc

from_zero : (half : ℕ) (z : ℤ) → z ≡ pos (mag z) → nat_abs z ≡ field_of half z
unfolding field_of
from_zero half (pos n) e = refl
from_zero half (negsuc k) e = cc

pub returns-then-n-lt0 : goal.returns-then-n-lt0
returns-then-n-lt0 c =
    c.saturating_sub.ensures
    ∙ ap (λ (n : ℕ). 2 * c.args.half - n) (c.unsigned_abs.ensures.value ∙ ap nat_abs (to_z-of_z c.ranges.n))
    ∙ below_zero _ _ (negative w32 c.args.n c.ranges.n c.if-n-lt0.true)

pub returns : goal.returns
returns c = c.unsigned_abs-2.ensures.value ∙ ap nat_abs (to_z-of_z c.ranges.n) ∙ from_zero _ _ (natural w32 c.args.n c.ranges.n c.if-n-lt0.false)
