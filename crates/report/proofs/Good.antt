-- What 28 bytes can hold of a report that is not good: a latitude, a climb, an integrity or an accuracy outside its range.
-- Assumes nothing.
use mathlib.Core.Path.{◌≡◌, refl, sym, ap, ◌∙◌}
use mathlib.Core.Bool.{Bool, true, false, cond, beq, ◌&&◌}
use Prim.Native.Nat.{ℕ, ◌+◌, ◌-◌, ◌*◌, ◌/◌, ◌%◌, ◌<◌}
use mathlib.Core.List.{List}
use native.Mathlib.Omega.{arith}
use lib.Dec.{eqb, ltb, leb}
use lib.IntN.{ℤ, pos, negsuc}
use lib.ListN.{get_or}
use lib.Signed.{mag}
use borrow.Author.Tests.{eqb-false, ltb-true, ltb-false, lt-ltb, le-leb}
use Rattle.numbers.specs.Signed.{signed_in}
use Rattle.numbers.proofs.Signed.{field_signed}
use Rattle.c_report.specs.Flat.{latitude_of, longitude_of, climb_steps}
use Rattle.std.specs.Prelude.{Option, Some, None, is_none}
use Rattle.units.specs.declared.PressureSteps.{PressureSteps}
use Rattle.message_types.specs.declared.Position.{Position}
use Rattle.message_types.specs.declared.Speed.TheVariants.{Knots, Over, None as no-speed}
use Rattle.message_types.specs.declared.Climb.{Climb}
use Rattle.message_types.specs.declared.Climb.TheVariants.{Steps, Above, Below, None as no-climb}
use Rattle.report.specs.Marks.{none_mark, position_of, place_of, altitude_of, steps_or, speed_of, knots_or, climb_of, climb_or}
use Rattle.report.specs.Bytes.{codes_in, report_in}
use Rattle.report.specs.Reading.{between, is_zero, south_pole, north_pole, lowest_climb, highest_climb, last_integrity, last_accuracy, good_position, good_report}
use Rattle.report.proofs.Marked.{zero_code, degrees_in}
use Rattle.report.proofs.Packing.{fit_in}

altitude_good : (d : ℕ) → d < 0x1000 → ltb (steps_or (altitude_of d) 0) 0xFFF ≡ true
unfolding altitude_of
altitude_good d h = go (eqb d 0xFFF) refl
  where
    go : (t : Bool) → eqb d 0xFFF ≡ t → ltb (steps_or (cond {A = Option PressureSteps} t None (Some (record { steps = d }))) 0) 0xFFF ≡ true
    go true e = refl
    go false e = let apart = eqb-false d 0xFFF e in lt-ltb d 0xFFF (omega arith)

speed_good : (h : ℕ) → h < 0x1000 → ltb (knots_or (speed_of h) 0 0) 0xFFE ≡ true
unfolding speed_of
speed_good h k = go (eqb h 0xFFF) refl (eqb h 0xFFE) refl
  where
    go : (s : Bool) → eqb h 0xFFF ≡ s → (t : Bool) → eqb h 0xFFE ≡ t → ltb (knots_or (cond s no-speed (cond t Over (Knots h))) 0 0) 0xFFE ≡ true
    go true e t f = refl
    go false e true f = refl
    go false e false f =
        let apart = eqb-false h 0xFFF e in
        let apart-2 = eqb-false h 0xFFE f in
        lt-ltb h 0xFFE (omega arith)

-- 24 bits hold a longitude, whatever they are
longitude_good : (n : ℕ) → n < 0x1000000 → (between (negsuc 8388607) (pos 8388607) (signed_in 0x800000 n) ≡ true) × (mag (signed_in 0x800000 n) < 0x800000)
unfolding signed_in
longitude_good n h = go (ltb n 0x800000) refl
  where
    made : Bool → ℤ
    made t = cond t (pos n) (negsuc (2 * 0x800000 - 1 - n))

    go : (t : Bool) → ltb n 0x800000 ≡ t → (between (negsuc 8388607) (pos 8388607) (made t) ≡ true) × (mag (made t) < 0x800000)
    go true e = let k = ltb-true n 0x800000 e in (le-leb n 8388607 (omega arith), k)
    go false e = let k = ltb-false n 0x800000 e in (simp (le-leb (2 * 0x800000 - 1 - n) 8388607 (omega arith)), omega arith)

zero_in : (n : ℕ) → n < 0x1000000 → is_zero (signed_in 0x800000 n) ≡ eqb n 0
zero_in n h = sym (zero_code (signed_in 0x800000 n) (longitude_good n h).1) ∙ ap (λ (k : ℕ). eqb k 0) (field_signed 0x800000 n (omega arith))

-- none exactly if latitude, longitude and integrity are all 0
none_good : (lat lon i : ℕ) → lat < 0x1000000 → lon < 0x1000000
    → beq (is_none (position_of lat lon i)) (is_zero (signed_in 0x800000 lat) && is_zero (signed_in 0x800000 lon) && eqb i 0) ≡ true
unfolding position_of
none_good lat lon i h k = simp (zero_in lat h, zero_in lon k) (go (none_mark lat lon i))
  where
    go : (b : Bool) → beq (is_none (cond {A = Option Position} b None (Some (record { latitude = signed_in 0x800000 lat; longitude = signed_in 0x800000 lon })))) b ≡ true
    go true = refl
    go false = refl

same_place : (p : Option Position) → ((place_of p).latitude ≡ latitude_of p) × ((place_of p).longitude ≡ longitude_of p)
same_place (Some p) = (refl, refl)
same_place None = (refl, refl)

same_climb : (c : Climb) → climb_or c (pos 0) (pos 0) (pos 0) ≡ climb_steps c
same_climb (Steps z) = refl
same_climb Above = refl
same_climb Below = refl
same_climb no-climb = refl

also_true : (b : Bool) → b && true ≡ b
also_true true = refl
also_true false = refl

pub good_in : (m : List ℕ) → ((i : ℕ) → get_or m i 0 < 256) → good_report (report_in m)
    ≡ (between south_pole north_pole (signed_in 0x800000 (codes_in m).latitude) && between lowest_climb highest_climb (climb_steps (climb_of (codes_in m).climb)))
    && (leb (get_or m 13 0 / 16) last_integrity && leb (get_or m 13 0 % 16) last_accuracy)
unfolding good_report good_position report_in
good_in m b =
    let c = codes_in m in
    let f = fit_in m b in
    let i = get_or m 13 0 / 16 in
    let p = position_of c.latitude c.longitude i in
    let d = degrees_in c.latitude c.longitude i in
    let nibble : (k : ℕ) → ltb (get_or m k 0 / 16) 16 ≡ true = λ k. lt-ltb (get_or m k 0 / 16) 16 (omega (arith, b k)) in
    let rest : (k : ℕ) → ltb (get_or m k 0 % 16) 16 ≡ true = λ k. lt-ltb (get_or m k 0 % 16) 16 (omega arith) in
    simp (
      none_good c.latitude c.longitude i f.latitude_fits f.longitude_fits,
      (same_place p).0 ∙ d.0,
      (same_place p).1 ∙ d.1,
      (longitude_good c.longitude f.longitude_fits).0,
      altitude_good c.altitude f.altitude_fits,
      speed_good c.speed f.speed_fits,
      same_climb (climb_of c.climb),
      nibble 1,
      rest 1,
      nibble 27,
      rest 27,
      lt-ltb (get_or m 2 0 * 65536 + get_or m 3 0 * 256 + get_or m 4 0) 0x1000000 (omega (arith, b 2, b 3, b 4)),
      also_true,
    )
