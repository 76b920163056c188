-- Both directions of both kinds.
-- Assumes nothing.
use mathlib.Core.Path.{◌≡◌, refl, sym, ap, ◌∙◌}
use mathlib.Core.Bool.{Bool, true, false, cond, not}
use Prim.Native.Nat.{ℕ, ◌+◌, ◌*◌, ◌/◌, ◌%◌, ◌<◌}
use mathlib.Core.List.{[], ◌∷◌}
use native.Mathlib.Omega.{arith}
use lib.Dec.{eqb, ltb, leb}
use lib.ListN.{get_or}
use borrow.Author.Tests.{eqb-false, ne_eqb, lt-ltb, le-leb, lt-leb, ltb-true, leb-true, leb-false, not-true}
use Rattle.numbers.specs.Signed.{signed_in, field_of}
use Rattle.numbers.proofs.Bytes.{byte_at, spread}
use Rattle.numbers.proofs.Every.{both, chosen}
use Rattle.numbers.proofs.Signed.{field_signed, signed_field}
use Rattle.codec.proofs.Outcomes.{never_8}
use Rattle.std.specs.Prelude.{Option, Some, None}
use Rattle.units.specs.declared.TerrainFeet.{TerrainFeet}
use Rattle.message_types.specs.declared.HeightAboveTerrain.{HeightAboveTerrain}
use Rattle.message_types.specs.declared.Merit.{Merit}
use Rattle.message_types.specs.declared.Merit.TheVariants.{Metres, Over, None as no-merit}
use Rattle.altitudes.specs.Height.{height_of, height_field, good_height, good_terrain, terrain_in, terrain_bytes}
use Rattle.altitudes.specs.Geometric.{over_merit, merit_of, merit_field, good_merit, good_geometric, geometric_in, geometric_bytes}
use Rattle.altitudes.specs.Claims.{TypedHeight, TerrainWrittenRead, TerrainReadWritten, GeometricWrittenRead, GeometricReadWritten, NeverOutside}

-- 16 bits as two bytes, high byte first
joined : (n : ℕ) → 256 * (n / 256) + n % 256 ≡ n
joined n = omega arith

height_back : (h : Option TerrainFeet) → TypedHeight h → good_height h ≡ true → height_of (height_field h) ≡ h
unfolding height_of
height_back (Some f) t g =
    let plain : eqb (field_of 0x8000 f.feet) 0x8000 ≡ false = not-true _ g in
    simp (plain, signed_field 0x8000 f.feet t)
height_back None t g = refl

height_there : (n : ℕ) → n < 0x10000 → height_field (height_of n) ≡ n
unfolding height_of
height_there n h = chosen (λ x. height_field x ≡ n) n 0x8000 _ _ sym (field_signed 0x8000 n (omega arith))

pub terrain_written_read : TerrainWrittenRead
unfolding terrain_in terrain_bytes
terrain_written_read h t g =
    ap {B = HeightAboveTerrain} (λ (x : Option TerrainFeet). record { height = x }) (ap height_of (joined (height_field h.height)) ∙ height_back h.height t g)

pub terrain_read_written : TerrainReadWritten
unfolding terrain_in terrain_bytes
terrain_read_written m long bytes id =
    let a = byte_at m 1 bytes in
    let b = byte_at m 2 bytes in
    let n = 256 * get_or m 1 0 + get_or m 2 0 in
    let high : n / 256 ≡ get_or m 1 0 = omega arith in
    let low : n % 256 ≡ get_or m 2 0 = omega arith in
    simp (height_there n (omega arith), high, low) (sym (spread 3 m long ∙ ap (λ (x : ℕ). x ∷ get_or m 1 0 ∷ get_or m 2 0 ∷ []) id))

pub merit_lt : (m : Merit) → good_merit m ≡ true → merit_field m < 0x8000
merit_lt (Metres n) g = omega (arith, ltb-true n 0x7FFF (both (ltb n 0x7FFF) _ g).0)
merit_lt Over g = omega arith
merit_lt no-merit g = omega arith

merit_back : (m : Merit) → good_merit m ≡ true → merit_of (merit_field m) ≡ m
unfolding merit_of
merit_back (Metres n) g =
    let b = both (ltb n 0x7FFF) (not (eqb n over_merit)) g in
    simp (ne_eqb n 0x7FFF (λ q. omega (arith, ltb-true n 0x7FFF b.0)), not-true (eqb n over_merit) b.1)
merit_back Over g = refl
merit_back no-merit g = refl

merit_there : (n : ℕ) → merit_field (merit_of n) ≡ n
unfolding merit_of
merit_there n = chosen is n 0x7FFF _ _ sym (chosen is n over_merit _ _ sym refl)
  where
    is : Merit → Type 0
    is m = merit_field m ≡ n

-- the warning above 15 bits
warned : (w : Bool) (n : ℕ) → n < 0x8000 → (leb 128 (cond w 128 0 + n / 256) ≡ w) × (256 * ((cond w 128 0 + n / 256) % 128) + n % 256 ≡ n)
warned true n h = (le-leb 128 (128 + n / 256) (omega arith), omega arith)
warned false n h = (lt-leb 128 (0 + n / 256) (omega arith), omega arith)

pub geometric_written_read : GeometricWrittenRead
unfolding geometric_in geometric_bytes
geometric_written_read g t h =
    let w = warned g.warning (merit_field g.merit) (merit_lt g.merit h) in
    simp (joined (field_of 0x8000 g.altitude.steps), signed_field 0x8000 g.altitude.steps t, w.0, ap merit_of w.1 ∙ merit_back g.merit h)

-- bit 7 and the rest of a byte
split : (b : ℕ) → b < 256 → cond (leb 128 b) 128 0 + b % 128 ≡ b
split b h = go (leb 128 b) refl
  where
    go : (t : Bool) → leb 128 b ≡ t → cond t 128 0 + b % 128 ≡ b
    go true e = omega (arith, leb-true 128 b e)
    go false e = omega (arith, leb-false 128 b e)

pub geometric_read_written : GeometricReadWritten
unfolding geometric_in geometric_bytes
geometric_read_written m long bytes id =
    let a = byte_at m 1 bytes in
    let b = byte_at m 2 bytes in
    let c = byte_at m 3 bytes in
    let d = byte_at m 4 bytes in
    let n = 256 * get_or m 1 0 + get_or m 2 0 in
    let k = 256 * (get_or m 3 0 % 128) + get_or m 4 0 in
    let n-high : n / 256 ≡ get_or m 1 0 = omega arith in
    let n-low : n % 256 ≡ get_or m 2 0 = omega arith in
    let k-high : k / 256 ≡ get_or m 3 0 % 128 = omega arith in
    let k-low : k % 256 ≡ get_or m 4 0 = omega arith in
    simp (field_signed 0x8000 n (omega arith), n-high, n-low, merit_there k, k-high, k-low, split (get_or m 3 0) c)
    (sym (spread 5 m long ∙ ap (λ (x : ℕ). x ∷ get_or m 1 0 ∷ get_or m 2 0 ∷ get_or m 3 0 ∷ get_or m 4 0 ∷ []) id))

-- what any 16 bits, and any 15, hold is good
height_good : (n : ℕ) → n < 0x10000 → good_height (height_of n) ≡ true
unfolding height_of
height_good n h = go (eqb n 0x8000) refl
  where
    go : (t : Bool) → eqb n 0x8000 ≡ t → good_height (cond t None (Some (record { feet = signed_in 0x8000 n }))) ≡ true
    go true e = refl
    go false e = simp (field_signed 0x8000 n (omega arith), e)

merit_good : (n : ℕ) → n < 0x8000 → good_merit (merit_of n) ≡ true
unfolding merit_of
merit_good n h = go (eqb n 0x7FFF) refl (eqb n over_merit) refl
  where
    go : (s : Bool) → eqb n 0x7FFF ≡ s → (t : Bool) → eqb n over_merit ≡ t → good_merit (cond s no-merit (cond t Over (Metres n))) ≡ true
    go true e t f = refl
    go false e true f = refl
    go false e false f = let lower = eqb-false n 0x7FFF e in simp (lt-ltb n 0x7FFF (omega arith), f)

pub never_outside : NeverOutside
unfolding terrain_in geometric_in
never_outside m bytes =
    let b : (i : ℕ) → get_or m i 0 < 256 = λ i. byte_at m i bytes in
    let b1 = b 1 in
    let b2 = b 2 in
    let b4 = b 4 in
    (never_8 9 3 terrain_in good_terrain m (height_good _ (omega arith)), never_8 11 5 geometric_in good_geometric m (merit_good _ (omega arith)))
