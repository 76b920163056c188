-- A typed message of any other kind than a report as a struct of numbers and back is that message: what was read can be written again.
-- Assumes nothing.
use Rattle.std.specs.Prelude.{◌≡◌}
use Rattle.message_types.specs.declared.Uplink.{Uplink}
use Rattle.message_types.specs.declared.HeightAboveTerrain.{HeightAboveTerrain}
use Rattle.message_types.specs.declared.GeometricAltitude.{GeometricAltitude}
use Rattle.c_structs.specs.Flat.{flat_uplink, uplink_from, flat_height, terrain_from, flat_geometric, geometric_from}

abbrev pub ThereAndBack : Type 0
ThereAndBack =
    ((x : Uplink) → uplink_from (flat_uplink x) ≡ x)
    × ((x : HeightAboveTerrain) → terrain_from (flat_height x) ≡ x)
    × ((x : GeometricAltitude) → geometric_from (flat_geometric x) ≡ x)
