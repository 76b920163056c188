-- Height above terrain (001 §3.7, RULES 'Height above terrain'), id 9, three bytes: signed feet, high byte first; 0x8000 is none.
-- Assumes nothing.
use Rattle.std.specs.Prelude.{ℕ, ◌+◌, ◌*◌, ◌/◌, ◌%◌, Bool, true, cond, not, List, [], ◌∷◌, eqb, get_or, Option, Some, None, Result}
use Rattle.numbers.specs.Signed.{signed_in, field_of}
use Rattle.refusals.specs.declared.Refusal.{Refusal}
use Rattle.codec.specs.Reading.{reading}
use Rattle.units.specs.declared.TerrainFeet.{TerrainFeet}
use Rattle.message_types.specs.declared.HeightAboveTerrain.{HeightAboveTerrain}

unfoldable pub height_of : ℕ → Option TerrainFeet
height_of n = cond (eqb n 0x8000) None (Some (record { feet = signed_in 0x8000 n }))

abbrev pub height_field : Option TerrainFeet → ℕ
height_field (Some h) = field_of 0x8000 h.feet
height_field None = 0x8000

-- the mark is not given as a plain number
abbrev pub good_height : Option TerrainFeet → Bool
good_height (Some h) = not (eqb (field_of 0x8000 h.feet) 0x8000)
good_height None = true

unfoldable pub terrain_in : List ℕ → HeightAboveTerrain
terrain_in m = record { height = height_of (256 * get_or m 1 0 + get_or m 2 0) }

unfoldable pub terrain_bytes : HeightAboveTerrain → List ℕ
terrain_bytes h = 9 ∷ height_field h.height / 256 ∷ height_field h.height % 256 ∷ []

abbrev pub good_terrain : HeightAboveTerrain → Bool
good_terrain h = good_height h.height

abbrev pub read_height : List ℕ → Result HeightAboveTerrain Refusal
read_height = reading 9 3 terrain_in good_terrain
