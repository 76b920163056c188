-- What is written and read is the same value, and what is read and written the same bytes (RULES 'Height above terrain', 'Geometric altitude').
-- Assumes nothing.
use Rattle.std.specs.Prelude.{◌≡◌, ℕ, ◌<◌, true, List, length, get_or, Option, Some, None}
use Rattle.std.specs.Int.Signed.{mag}
use Rattle.numbers.specs.Bytes.{AreBytes}
use Rattle.codec.specs.Reading.{fit, held}
use Rattle.units.specs.declared.TerrainFeet.{TerrainFeet}
use Rattle.message_types.specs.declared.HeightAboveTerrain.{HeightAboveTerrain}
use Rattle.message_types.specs.declared.GeometricAltitude.{GeometricAltitude}
use Rattle.altitudes.specs.Height.{good_terrain, terrain_in, terrain_bytes, read_height}
use Rattle.altitudes.specs.Geometric.{good_geometric, geometric_in, geometric_bytes, read_geometric}

-- the feet are of their 16-bit type
abbrev pub TypedHeight : Option TerrainFeet → Type 0
TypedHeight (Some h) = mag h.feet < 0x8000
TypedHeight None = Unit {0}

abbrev pub TerrainWrittenRead : Type 0
TerrainWrittenRead = (h : HeightAboveTerrain) → TypedHeight h.height → good_terrain h ≡ true → terrain_in (terrain_bytes h) ≡ h

abbrev pub TerrainReadWritten : Type 0
TerrainReadWritten = (m : List ℕ) → length m ≡ 3 → AreBytes m → get_or m 0 0 ≡ 9 → terrain_bytes (terrain_in m) ≡ m

-- 8 is never given: every value of the bits is in range
abbrev pub NeverOutside : Type 0
NeverOutside =
    (m : List ℕ) → AreBytes m
    → (read_height m ≡ held terrain_in (λ _. true) (fit 9 3 m)) × (read_geometric m ≡ held geometric_in (λ _. true) (fit 11 5 m))

-- the steps are of their 16-bit type
abbrev pub GeometricWrittenRead : Type 0
GeometricWrittenRead = (g : GeometricAltitude) → mag g.altitude.steps < 0x8000 → good_geometric g ≡ true → geometric_in (geometric_bytes g) ≡ g

abbrev pub GeometricReadWritten : Type 0
GeometricReadWritten = (m : List ℕ) → length m ≡ 5 → AreBytes m → get_or m 0 0 ≡ 11 → geometric_bytes (geometric_in m) ≡ m
