-- Each field of a report and the number that stands for it in the bytes (001 §3.5.1.3 to §3.5.1.8, RULES 'Reports'). Marks are cases of their own.
-- Assumes nothing.
use Rattle.std.specs.Prelude.{ℕ, Bool, cond, ◌&&◌, eqb, ℤ, pos, Option, Some, None, unwrap_or}
use Rattle.numbers.specs.Signed.{signed_in}
use Rattle.message_types.specs.declared.Position.{Position}
use Rattle.units.specs.declared.PressureSteps.{PressureSteps}
use Rattle.message_types.specs.declared.Speed.{Speed}
use Rattle.message_types.specs.declared.Speed.TheVariants.{Knots, Over, None as no-speed}
use Rattle.message_types.specs.declared.Climb.{Climb}
use Rattle.message_types.specs.declared.Climb.TheVariants.{Steps, Above, Below, None as no-climb}

-- none exactly if latitude, longitude and integrity are all 0
abbrev pub none_mark : ℕ → ℕ → ℕ → Bool
none_mark latitude longitude integrity = eqb latitude 0 && eqb longitude 0 && eqb integrity 0

unfoldable pub position_of : ℕ → ℕ → ℕ → Option Position
position_of latitude longitude integrity =
    cond (none_mark latitude longitude integrity) None
    (Some (record { latitude = signed_in 0x800000 latitude; longitude = signed_in 0x800000 longitude }))

abbrev pub place_of : Option Position → Position
place_of p = unwrap_or p (record { latitude = pos 0; longitude = pos 0 })

unfoldable pub altitude_of : ℕ → Option PressureSteps
altitude_of d = cond (eqb d 0xFFF) None (Some (record { steps = d }))

-- the plain number, or a number for each mark
abbrev pub steps_or : Option PressureSteps → ℕ → ℕ
steps_or a none = (unwrap_or a (record { steps = none })).steps

unfoldable pub speed_of : ℕ → Speed
speed_of h = cond (eqb h 0xFFF) no-speed (cond (eqb h 0xFFE) Over (Knots h))

abbrev pub knots_or : Speed → ℕ → ℕ → ℕ
knots_or (Knots h) over none = h
knots_or Over over none = over
knots_or no-speed over none = none

-- the climb's marks are 0x1FE, 0xE02 and 0x800
unfoldable pub climb_of : ℕ → Climb
climb_of v = cond (eqb v 0x800) no-climb (cond (eqb v 0x1FE) Above (cond (eqb v 0xE02) Below (Steps (signed_in 0x800 v))))

abbrev pub climb_or : Climb → ℤ → ℤ → ℤ → ℤ
climb_or (Steps v) above below none = v
climb_or Above above below none = above
climb_or Below above below none = below
climb_or no-climb above below none = none
