-- The typed values, there and back.
-- Assumes nothing.
use mathlib.Core.Path.{◌≡◌, refl}
use Rattle.std.specs.Prelude.{Option, Some, None, unwrap_or, negsuc, pos}
use Rattle.message_types.specs.declared.Merit.{Merit}
use Rattle.message_types.specs.declared.Merit.TheVariants as merit
use Rattle.c_structs.specs.Flat.{none_mark, marked, merit_mark, merit_metres, merit_from}
use Rattle.c_structs.specs.Claims.{ThereAndBack}

fields : {T : Type 0} (x : Option T) (zero refused : T) → marked (none_mark x) (unwrap_or x zero) refused ≡ x
unfolding marked
fields (Some y) zero refused = refl
fields None zero refused = refl

merits : (x : Merit) → merit_from (merit_mark x) (merit_metres x) ≡ x
unfolding merit_from
merits (merit.Metres n) = refl
merits merit.None = refl
merits merit.Over = refl

pub there_and_back : ThereAndBack
there_and_back = (
  λ x. simp (fields x.reception 0 0xFFFFFF),
  λ x. simp (fields x.height (record { feet = pos 0 }) (record { feet = negsuc 0x7FFF })),
  λ x. simp (merits x.merit),
)
