-- The answer in degrees, as C has it (RULES 'Structs for C'): the number, and the values, 0 with a refusal.
-- Assumes nothing.
use Rattle.std.specs.Prelude.{◌≡◌, ℤ, Result}
use Rattle.std.specs.Float.{binary64}
use Rattle.std.specs.Float.Ieee.{to_bits}
use Rattle.refusals.specs.declared.Refusal.{Refusal}
use Rattle.units.specs.declared.Degrees.{Degrees}
use Rattle.units.specs.Degrees.{Exactly, degrees_of}
use Rattle.gdl90.specs.declared.DegreesAnswer.{DegreesAnswer}
use Rattle.refusals.specs.Numbers.{number_in}

abbrev pub degrees_answer : Result Degrees Refusal → DegreesAnswer
degrees_answer d = record { number = number_in d; latitude = (degrees_of d).latitude; longitude = (degrees_of d).longitude }

-- with number 0 both floats are exact
abbrev pub ExactAnswer : ℤ → ℤ → DegreesAnswer → Type 0
ExactAnswer latitude longitude r =
    r.number ≡ 0 → Exactly latitude (to_bits binary64 r.latitude) × Exactly longitude (to_bits binary64 r.longitude)
