-- Ownship geometric altitude (001 §3.8, RULES 'Geometric altitude'), id 11, five bytes: signed steps of 5 feet, high byte first; then a
-- warning in bit 15 and a figure of merit in metres in the other 15 bits; 0x7FFF is none.
-- Assumes nothing.
use Rattle.std.specs.Prelude.{ℕ, ◌+◌, ◌*◌, ◌/◌, ◌%◌, Bool, true, cond, not, ◌&&◌, List, [], ◌∷◌, eqb, ltb, leb, get_or, Result}
use Rattle.numbers.specs.Signed.{signed_in, field_of}
use Rattle.refusals.specs.declared.Refusal.{Refusal}
use Rattle.codec.specs.Reading.{reading}
use Rattle.message_types.specs.declared.Merit.{Merit}
use Rattle.message_types.specs.declared.Merit.TheVariants.{Metres, Over, None}
use Rattle.message_types.specs.declared.GeometricAltitude.{GeometricAltitude}

-- the mark of a merit over 32,766 metres
abbrev pub over_merit : ℕ
over_merit = 0x7EEE

unfoldable pub merit_of : ℕ → Merit
merit_of n = cond (eqb n 0x7FFF) None (cond (eqb n over_merit) Over (Metres n))

abbrev pub merit_field : Merit → ℕ
merit_field (Metres n) = n
merit_field Over = over_merit
merit_field None = 0x7FFF

-- within 15 bits, and no mark as a plain number
abbrev pub good_merit : Merit → Bool
good_merit (Metres n) = ltb n 0x7FFF && not (eqb n over_merit)
good_merit Over = true
good_merit None = true

unfoldable pub geometric_in : List ℕ → GeometricAltitude
geometric_in m = record {
  altitude = record { steps = signed_in 0x8000 (256 * get_or m 1 0 + get_or m 2 0) };
  warning = leb 128 (get_or m 3 0);
  merit = merit_of (256 * (get_or m 3 0 % 128) + get_or m 4 0);
}

unfoldable pub geometric_bytes : GeometricAltitude → List ℕ
geometric_bytes g =
    11
    ∷ field_of 0x8000 g.altitude.steps / 256
    ∷ field_of 0x8000 g.altitude.steps % 256
    ∷ (cond g.warning 128 0 + merit_field g.merit / 256)
    ∷ merit_field g.merit % 256
    ∷ []

abbrev pub good_geometric : GeometricAltitude → Bool
good_geometric g = good_merit g.merit

abbrev pub read_geometric : List ℕ → Result GeometricAltitude Refusal
read_geometric = reading 11 5 geometric_in good_geometric
