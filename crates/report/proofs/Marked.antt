-- Each field and the number that stands for it hold the same: from the number and back, and from a good field and back.
-- Assumes nothing.
use mathlib.Core.Path.{◌≡◌, refl, sym, ap}
use mathlib.Core.Bool.{Bool, true, false, cond, beq, ◌&&◌}
use Prim.Native.Nat.{ℕ, zero, suc, ◌*◌, ◌-◌, ◌<◌}
use native.Mathlib.Omega.{arith}
use lib.Dec.{eqb, ltb, leb}
use lib.IntN.{ℤ, pos, negsuc}
use lib.Signed.{mag}
use borrow.Author.Tests.{ne_eqb, ltb-true, eqb-true, leb-true, le-leb, lt-leb}
use Rattle.numbers.proofs.Every.{both, chosen, every, at}
use Rattle.numbers.proofs.Signed.{field_signed, signed_field, field_fits}
use Rattle.std.specs.Int.{from_bool}
use Rattle.numbers.specs.Signed.{signed_in, field_of}
use Rattle.c_report.specs.Flat.{latitude_of, longitude_of, track_number, track_from, climb_steps}
use Rattle.report.specs.Marks.{none_mark, position_of, place_of, altitude_of, steps_or, speed_of, knots_or, climb_of, climb_or}
use Rattle.report.specs.Reading.{between, is_zero, good_position}
use Rattle.std.specs.Prelude.{Option, Some, None, is_none}
use Rattle.units.specs.declared.PressureSteps.{PressureSteps}
use Rattle.message_types.specs.declared.Position.{Position}
use Rattle.message_types.specs.declared.TrackKind.{TrackKind}
use Rattle.message_types.specs.declared.TrackKind.TheVariants.{NotValid, TrueTrack, MagneticHeading, TrueHeading}
use Rattle.message_types.specs.declared.Speed.{Speed}
use Rattle.message_types.specs.declared.Speed.TheVariants.{Knots, Over, None as no-speed}
use Rattle.message_types.specs.declared.Climb.{Climb}
use Rattle.message_types.specs.declared.Climb.TheVariants.{Steps, Above, Below, None as no-climb}

-- a number from -a-1 to b
sized : (a b half : ℕ) (z : ℤ) → between (negsuc a) (pos b) z ≡ true → a < half → b < half → mag z < half
sized a b half (pos n) e h k = omega (arith, leb-true n b e)
sized a b half (negsuc n) e h k = omega (arith, leb-true n a (both (leb n a) true e).0)

-- ---- altitude and speed

pub altitude_code : (d : ℕ) → steps_or (altitude_of d) 0xFFF ≡ d
unfolding altitude_of
altitude_code d = chosen (λ a. steps_or a 0xFFF ≡ d) d 0xFFF _ _ sym refl

pub altitude_back : (a : Option PressureSteps) → ltb (steps_or a 0) 0xFFF ≡ true → (altitude_of (steps_or a 0xFFF) ≡ a) × (steps_or a 0xFFF < 0x1000)
unfolding altitude_of
altitude_back (Some a) g =
    let h : a.steps < 0xFFF = ltb-true a.steps 0xFFF g in
    (simp (ne_eqb a.steps 0xFFF (λ e. omega arith)), omega arith)
altitude_back None g = (refl, omega arith)

pub speed_code : (h : ℕ) → knots_or (speed_of h) 0xFFE 0xFFF ≡ h
unfolding speed_of
speed_code h = chosen is h 0xFFF _ _ sym (chosen is h 0xFFE _ _ sym refl)
  where
    is : Speed → Type 0
    is s = knots_or s 0xFFE 0xFFF ≡ h

pub speed_back : (s : Speed) → ltb (knots_or s 0 0) 0xFFE ≡ true → (speed_of (knots_or s 0xFFE 0xFFF) ≡ s) × (knots_or s 0xFFE 0xFFF < 0x1000)
unfolding speed_of
speed_back (Knots h) g =
    let l : h < 0xFFE = ltb-true h 0xFFE g in
    (simp (ne_eqb h 0xFFF (λ e. omega arith), ne_eqb h 0xFFE (λ e. omega arith)), omega arith)
speed_back Over g = (refl, omega arith)
speed_back no-speed g = (refl, omega arith)

-- ---- climb

abbrev pub climb_code : Climb → ℕ
climb_code v = field_of 0x800 (climb_or v (pos 510) (negsuc 509) (negsuc 2047))

pub climb_code_lem : (v : ℕ) → v < 0x1000 → climb_code (climb_of v) ≡ v
unfolding climb_of field_of
climb_code_lem v h = chosen is v 0x800 _ _ sym (chosen is v 0x1FE _ _ sym (chosen is v 0xE02 _ _ sym (field_signed 0x800 v (omega arith))))
  where
    is : Climb → Type 0
    is c = climb_code c ≡ v

-- steps within 509 are none of the three marks
unmarked : (z : ℤ) → between (negsuc 508) (pos 509) z ≡ true → (field_of 0x800 z ≡ 0x800 → ⊥) × (field_of 0x800 z ≡ 0x1FE → ⊥) × (field_of 0x800 z ≡ 0xE02 → ⊥)
unfolding field_of
unmarked (pos n) g = let h = sized 508 509 510 (pos n) g (omega arith) (omega arith) in ((λ e. omega arith), (λ e. omega arith), (λ e. omega arith))
unmarked (negsuc k) g = let h = leb-true k 508 (both _ true g).0 in ((λ e. omega arith), (λ e. omega arith), (λ e. omega arith))

pub climb_back : (v : Climb) → between (negsuc 508) (pos 509) (climb_or v (pos 0) (pos 0) (pos 0)) ≡ true → (climb_of (climb_code v) ≡ v) × (climb_code v < 0x1000)
unfolding climb_of field_of
climb_back (Steps z) g =
    let u = unmarked z g in
    let h = sized 508 509 510 z g (omega arith) (omega arith) in (
      simp (ne_eqb (field_of 0x800 z) 0x800 u.0, ne_eqb (field_of 0x800 z) 0x1FE u.1, ne_eqb (field_of 0x800 z) 0xE02 u.2) (ap Steps (signed_field 0x800 z (omega arith))),
      omega (arith, field_fits 0x800 z (omega arith)),
    )
climb_back Above g = (refl, omega arith)
climb_back Below g = (refl, omega arith)
climb_back no-climb g = (refl, omega arith)

-- ---- the track's kind, and bits

pub kind_code : (n : ℕ) → n < 4 → track_number (track_from n) ≡ n
unfolding track_from every
kind_code n h = eqb-true _ n (at (λ k. eqb (track_number (track_from k)) k) 4 refl n h)

pub kind_fits : (k : TrackKind) → track_number k < 4
kind_fits NotValid = omega arith
kind_fits TrueTrack = omega arith
kind_fits MagneticHeading = omega arith
kind_fits TrueHeading = omega arith

pub bit_code : (n : ℕ) → n < 2 → from_bool (eqb n 1) ≡ n
unfolding every
bit_code n h = eqb-true _ n (at (λ k. eqb (from_bool (eqb k 1)) k) 2 refl n h)

pub bit_back : (b : Bool) → (eqb (from_bool b) 1 ≡ b) × (from_bool b < 2)
bit_back true = (refl, omega arith)
bit_back false = (refl, omega arith)

-- ---- position

abbrev pub degree_code : ℤ → ℕ
degree_code = field_of 0x800000

pub position_code : (lat lon i : ℕ) → lat < 0x1000000 → lon < 0x1000000 → (degree_code (place_of (position_of lat lon i)).latitude ≡ lat) × (degree_code (place_of (position_of lat lon i)).longitude ≡ lon)
unfolding position_of field_of
position_code lat lon i h k = go (none_mark lat lon i) refl
  where
    made : Bool → Option Position
    made b = cond b None (Some (record { latitude = signed_in 0x800000 lat; longitude = signed_in 0x800000 lon }))

    go : (b : Bool) → none_mark lat lon i ≡ b → (degree_code (place_of (made b)).latitude ≡ lat) × (degree_code (place_of (made b)).longitude ≡ lon)
    go true e =
        let z = both (eqb lat 0) (eqb lon 0) (both (eqb lat 0 && eqb lon 0) (eqb i 0) e).0 in
        (sym (eqb-true lat 0 z.0), sym (eqb-true lon 0 z.1))
    go false e = (field_signed 0x800000 lat (omega arith), field_signed 0x800000 lon (omega arith))

pub zero_code : (z : ℤ) → mag z < 0x800000 → eqb (degree_code z) 0 ≡ is_zero z
unfolding field_of
zero_code (pos zero) h = refl
zero_code (pos (suc n)) h = simp (ne_eqb (suc n) 0 (λ e. omega arith), le-leb 0 (suc n) (omega arith), lt-leb (suc n) 0 (omega arith))
zero_code (negsuc n) h =
    let k : n < 0x800000 = h in ne_eqb (2 * 0x800000 - 1 - n) 0 (λ (e : 2 * 0x800000 - 1 - n ≡ 0). omega arith)

pub position_back : (p : Option Position) (i : ℕ) → good_position p i ≡ true → (position_of (degree_code (place_of p).latitude) (degree_code (place_of p).longitude) i ≡ p) × (degree_code (place_of p).latitude < 0x1000000) × (degree_code (place_of p).longitude < 0x1000000)
unfolding good_position position_of
position_back p i g =
    let lat = (place_of p).latitude in
    let lon = (place_of p).longitude in
    let a = both (between (negsuc 4194303) (pos 4194304) lat && between (negsuc 8388607) (pos 8388607) lon) _ g in
    let b = both (between (negsuc 4194303) (pos 4194304) lat) _ a.0 in
    let h = sized 4194303 4194304 0x800000 lat b.0 (omega arith) (omega arith) in
    let k = sized 8388607 8388607 0x800000 lon b.1 (omega arith) (omega arith) in (
      simp (zero_code lat h, zero_code lon k) (go p h k (is_zero lat && is_zero lon && eqb i 0) a.1),
      omega (arith, field_fits 0x800000 lat (omega arith)),
      omega (arith, field_fits 0x800000 lon (omega arith)),
    )
  where
    go : (p : Option Position) →
        mag (place_of p).latitude < 0x800000 →
        mag (place_of p).longitude < 0x800000 →
        (b : Bool) →
        beq (is_none p) b ≡ true →
        cond {A = Option Position} b None (Some (record { latitude = signed_in 0x800000 (degree_code (place_of p).latitude); longitude = signed_in 0x800000 (degree_code (place_of p).longitude) })) ≡ p
    go (Some place) h k true e = cc
    go (Some place) h k false e = λ j. Some (record { latitude = signed_field 0x800000 place.latitude h j; longitude = signed_field 0x800000 place.longitude k j })
    go None h k true e = refl
    go None h k false e = cc

-- ---- what reading into numbers uses

-- 32 bits hold the number of a climb
pub climb_fits : (v : ℕ) → mag (climb_steps (climb_of v)) < 0x80000000
unfolding climb_of signed_in
climb_fits v = go (eqb v 0x800) (eqb v 0x1FE) (eqb v 0xE02) (ltb v 0x800) refl
  where
    go : (a b d t : Bool) → ltb v 0x800 ≡ t
        → mag (climb_steps (cond a no-climb (cond b Above (cond d Below (Steps (cond t (pos v) (negsuc (2 * 0x800 - 1 - v)))))))) < 0x80000000
    go true b d t e = omega arith
    go false true d t e = omega arith
    go false false true t e = omega arith
    go false false false true e = omega (arith, ltb-true v 0x800 e)
    go false false false false e = omega arith

-- latitude and longitude are the numbers in the bits, also where they are none
pub degrees_in : (lat lon i : ℕ) → (latitude_of (position_of lat lon i) ≡ signed_in 0x800000 lat) × (longitude_of (position_of lat lon i) ≡ signed_in 0x800000 lon)
unfolding position_of signed_in
degrees_in lat lon i = go (none_mark lat lon i) refl
  where
    made : Bool → Option Position
    made b = cond b None (Some (record { latitude = signed_in 0x800000 lat; longitude = signed_in 0x800000 lon }))

    go : (b : Bool) → none_mark lat lon i ≡ b → (latitude_of (made b) ≡ signed_in 0x800000 lat) × (longitude_of (made b) ≡ signed_in 0x800000 lon)
    go true e =
        let z = both (eqb lat 0) (eqb lon 0) (both (eqb lat 0 && eqb lon 0) (eqb i 0) e).0 in
        (ap (signed_in 0x800000) (sym (eqb-true lat 0 z.0)), ap (signed_in 0x800000) (sym (eqb-true lon 0 z.1)))
    go false e = (refl, refl)
