-- Each field with a mark: an unknown mark is no good value, and a known one comes back, with the field where it is a number.
-- Assumes nothing.
use mathlib.Core.Path.{◌≡◌, refl}
use mathlib.Core.Bool.{Bool, true, false}
use Prim.Native.Nat.{ℕ, zero, suc, ◌≤◌, ◌<◌}
use native.Mathlib.Omega.{arith}
use lib.Dec.{leb, ltb}
use lib.IntN.{ℤ, pos}
use borrow.Author.Tests.{ne_eqb, leb-true, leb-false}
use Rattle.std.specs.Prelude.{unwrap_or}
use Rattle.numbers.specs.Signed.{field_of}
use Rattle.units.specs.declared.TerrainFeet.{TerrainFeet}
use Rattle.units.specs.declared.PressureSteps.{PressureSteps}
use Rattle.uplink.specs.Reception.{good_reception}
use Rattle.altitudes.specs.Height.{good_height}
use Rattle.altitudes.specs.Geometric.{good_merit}
use Rattle.report.specs.Marks.{steps_or, knots_or, climb_or}
use Rattle.report.specs.Reading.{between, lowest_climb, highest_climb, good_position}
use Rattle.c_structs.specs.Flat.{none_mark, marked, reception_from, height_from, merit_mark, merit_metres, merit_from}
use Rattle.c_report.specs.Flat.{position_mark, latitude_of, longitude_of, position_from, altitude_mark, altitude_steps, altitude_from}
use Rattle.c_report.specs.Flat.{speed_mark, speed_knots, speed_from, climb_mark, climb_steps, climb_from}
use Rattle.c_laws.specs.Zeroed.{beside}

-- where what lies above `last` is bad, what is good lies within it
pub within : (last mark : ℕ) {good : Bool} → (last < mark → good ≡ false) → good ≡ true → mark ≤ last
within last mark bad g = go (leb mark last) refl
  where
    go : (t : Bool) → leb mark last ≡ t → mark ≤ last
    go true e = leb-true mark last e
    go false e = let f = bad (leb-false mark last e) in let z : ◌≡◌ {A = ℕ} 0 1 = cc in absurd (omega arith)

module _ (mark : ℕ) where
  pub reception_unknown : (n : ℕ) → 1 < mark → good_reception (reception_from mark n) ≡ false
  unfolding marked
  reception_unknown n h = simp (ne_eqb mark 0 (λ e. omega arith), ne_eqb mark 1 (λ e. omega arith))

  pub height_unknown : (h : TerrainFeet) → 1 < mark → good_height (height_from mark h) ≡ false
  unfolding marked field_of
  height_unknown f h = simp (ne_eqb mark 0 (λ e. omega arith), ne_eqb mark 1 (λ e. omega arith))

  pub merit_unknown : (n : ℕ) → 2 < mark → good_merit (merit_from mark n) ≡ false
  unfolding merit_from
  merit_unknown n h = simp (ne_eqb mark 0 (λ e. omega arith), ne_eqb mark 1 (λ e. omega arith), ne_eqb mark 2 (λ e. omega arith))

  pub position_unknown : (a o : ℤ) (integrity : ℕ) → 1 < mark → good_position (position_from mark a o) integrity ≡ false
  unfolding marked good_position
  position_unknown a o i h = simp (ne_eqb mark 0 (λ e. omega arith), ne_eqb mark 1 (λ e. omega arith))

  pub altitude_unknown : (d : PressureSteps) → 1 < mark → ltb (steps_or (altitude_from mark d) 0) 0xFFF ≡ false
  unfolding marked
  altitude_unknown d h = simp (ne_eqb mark 0 (λ e. omega arith), ne_eqb mark 1 (λ e. omega arith))

  pub speed_unknown : (n : ℕ) → 2 < mark → ltb (knots_or (speed_from mark n) 0 0) 0xFFE ≡ false
  unfolding speed_from
  speed_unknown n h = simp (ne_eqb mark 0 (λ e. omega arith), ne_eqb mark 1 (λ e. omega arith), ne_eqb mark 2 (λ e. omega arith))

  pub climb_unknown : (z : ℤ) → 3 < mark → between lowest_climb highest_climb (climb_or (climb_from mark z) (pos 0) (pos 0) (pos 0)) ≡ false
  unfolding climb_from
  climb_unknown z h =
      simp (ne_eqb mark 0 (λ e. omega arith), ne_eqb mark 1 (λ e. omega arith), ne_eqb mark 2 (λ e. omega arith), ne_eqb mark 3 (λ e. omega arith))

pub reception_back : (mark n : ℕ) → mark ≤ 1 → (none_mark (reception_from mark n) ≡ mark) × (unwrap_or (reception_from mark n) 0 ≡ beside mark 0 n)
unfolding marked
reception_back zero n h = (refl, refl)
reception_back (suc zero) n h = (refl, refl)
reception_back (suc (suc k)) n h = absurd (omega arith)

pub height_back : (mark : ℕ) (h : TerrainFeet) → mark ≤ 1
    → (none_mark (height_from mark h) ≡ mark) × (unwrap_or (height_from mark h) (record { feet = pos 0 }) ≡ beside mark (record { feet = pos 0 }) h)
unfolding marked
height_back zero f h = (refl, refl)
height_back (suc zero) f h = (refl, refl)
height_back (suc (suc k)) f h = absurd (omega arith)

pub merit_back : (mark n : ℕ) → mark ≤ 2 → (merit_mark (merit_from mark n) ≡ mark) × (merit_metres (merit_from mark n) ≡ beside mark 0 n)
unfolding merit_from
merit_back zero n h = (refl, refl)
merit_back (suc zero) n h = (refl, refl)
merit_back (suc (suc zero)) n h = (refl, refl)
merit_back (suc (suc (suc k))) n h = absurd (omega arith)

pub position_back : (mark : ℕ) (a o : ℤ) → mark ≤ 1
    → (position_mark (position_from mark a o) ≡ mark) × (latitude_of (position_from mark a o) ≡ beside mark (pos 0) a)
    × (longitude_of (position_from mark a o) ≡ beside mark (pos 0) o)
unfolding marked
position_back zero a o h = (refl, refl, refl)
position_back (suc zero) a o h = (refl, refl, refl)
position_back (suc (suc k)) a o h = absurd (omega arith)

pub altitude_back : (mark : ℕ) (d : PressureSteps) → mark ≤ 1
    → (altitude_mark (altitude_from mark d) ≡ mark) × (altitude_steps (altitude_from mark d) ≡ beside mark (record { steps = 0 }) d)
unfolding marked
altitude_back zero d h = (refl, refl)
altitude_back (suc zero) d h = (refl, refl)
altitude_back (suc (suc k)) d h = absurd (omega arith)

pub speed_back : (mark n : ℕ) → mark ≤ 2 → (speed_mark (speed_from mark n) ≡ mark) × (speed_knots (speed_from mark n) ≡ beside mark 0 n)
unfolding speed_from
speed_back zero n h = (refl, refl)
speed_back (suc zero) n h = (refl, refl)
speed_back (suc (suc zero)) n h = (refl, refl)
speed_back (suc (suc (suc k))) n h = absurd (omega arith)

pub climb_back : (mark : ℕ) (z : ℤ) → mark ≤ 3 → (climb_mark (climb_from mark z) ≡ mark) × (climb_steps (climb_from mark z) ≡ beside mark (pos 0) z)
unfolding climb_from
climb_back zero z h = (refl, refl)
climb_back (suc zero) z h = (refl, refl)
climb_back (suc (suc zero)) z h = (refl, refl)
climb_back (suc (suc (suc zero))) z h = (refl, refl)
climb_back (suc (suc (suc (suc k)))) z h = absurd (omega arith)
