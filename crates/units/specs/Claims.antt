-- What is proved of degrees (RULES 'Degrees'), besides that the code works them out.
-- Assumes nothing.
use Rattle.std.specs.Prelude.{ℤ}
use Rattle.units.specs.Degrees.{in_degrees, ExactlyAt}

-- nothing is lost
abbrev pub ExactDegrees : Type 0
ExactDegrees = (latitude longitude : ℤ) → ExactlyAt latitude longitude (in_degrees latitude longitude)
