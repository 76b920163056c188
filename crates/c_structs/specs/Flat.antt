-- The typed messages but for reports as structs of numbers (RULES 'Structs for C'). A field that can have a mark has a number for it
-- beside: 0, the field is a number; 1, none; 2, over. With a mark the field is 0, and it is not looked at on the way back. Any other
-- number is no mark: the way back then gives the field a number that writing refuses with 8.
-- Assumes nothing.
use Rattle.std.specs.Prelude.{ℕ, cond, eqb, pos, negsuc, Option, Some, None, unwrap_or}
use Rattle.units.specs.declared.TerrainFeet.{TerrainFeet}
use Rattle.message_types.specs.declared.Merit.{Merit}
use Rattle.message_types.specs.declared.Merit.TheVariants as merit
use Rattle.message_types.specs.declared.Uplink.{Uplink}
use Rattle.message_types.specs.declared.HeightAboveTerrain.{HeightAboveTerrain}
use Rattle.message_types.specs.declared.GeometricAltitude.{GeometricAltitude}
use Rattle.c_structs.specs.declared.FlatUplink.{FlatUplink}
use Rattle.c_structs.specs.declared.FlatHeight.{FlatHeight}
use Rattle.c_structs.specs.declared.FlatGeometric.{FlatGeometric}

-- a field that may be none
abbrev pub none_mark : {T : Type 0} → Option T → ℕ
none_mark (Some x) = 0
none_mark None = 1

-- and back: the number, or the one that writing refuses
unfoldable pub marked : {T : Type 0} → ℕ → T → T → Option T
marked mark number refused = cond (eqb mark 0) (Some number) (cond (eqb mark 1) None (Some refused))

-- the time of reception, and the height above terrain
abbrev pub reception_from : ℕ → ℕ → Option ℕ
reception_from mark n = marked mark n 0xFFFFFF

abbrev pub height_from : ℕ → TerrainFeet → Option TerrainFeet
height_from mark h = marked mark h (record { feet = negsuc 0x7FFF })

-- the figure of merit
abbrev pub merit_mark : Merit → ℕ
merit_mark (merit.Metres n) = 0
merit_mark merit.None = 1
merit_mark merit.Over = 2

abbrev pub merit_metres : Merit → ℕ
merit_metres (merit.Metres n) = n
merit_metres merit.None = 0
merit_metres merit.Over = 0

unfoldable pub merit_from : ℕ → ℕ → Merit
merit_from mark n =
    cond (eqb mark 0) (merit.Metres n) (cond (eqb mark 1) merit.None (cond (eqb mark 2) merit.Over (merit.Metres 0x7FFF)))

-- each kind, there and back
abbrev pub flat_uplink : Uplink → FlatUplink
flat_uplink u = record { reception_mark = none_mark u.reception; reception = unwrap_or u.reception 0 }

abbrev pub uplink_from : FlatUplink → Uplink
uplink_from f = record { reception = reception_from f.reception_mark f.reception }

abbrev pub flat_height : HeightAboveTerrain → FlatHeight
flat_height h = record { height_mark = none_mark h.height; height = unwrap_or h.height (record { feet = pos 0 }) }

abbrev pub terrain_from : FlatHeight → HeightAboveTerrain
terrain_from f = record { height = height_from f.height_mark f.height }

abbrev pub flat_geometric : GeometricAltitude → FlatGeometric
flat_geometric g = record {
  altitude = g.altitude;
  warning = g.warning;
  merit_mark = merit_mark g.merit;
  merit = merit_metres g.merit;
}

abbrev pub geometric_from : FlatGeometric → GeometricAltitude
geometric_from f = record { altitude = f.altitude; warning = f.warning; merit = merit_from f.merit_mark f.merit }
