-- Feet, from each of the three units (001 §3.5.1.4, §3.7, §3.8, RULES 'Units').
-- Assumes nothing.
use Rattle.std.specs.Prelude.{◌*◌, ℤ, pos, ◌-ℤ◌, ◌*ℤ◌}
use Rattle.units.specs.declared.PressureSteps.{PressureSteps}
use Rattle.units.specs.declared.GeometricSteps.{GeometricSteps}
use Rattle.units.specs.declared.TerrainFeet.{TerrainFeet}

-- 25 feet a step, from 1,000 feet below zero on
abbrev pub pressure_feet : PressureSteps → ℤ
pressure_feet d = pos (d.steps * 25) -ℤ pos 1000

-- geometric altitude, 5 feet a step
abbrev pub geometric_feet : GeometricSteps → ℤ
geometric_feet a = a.steps *ℤ pos 5

abbrev pub terrain_feet : TerrainFeet → ℤ
terrain_feet h = h.feet
