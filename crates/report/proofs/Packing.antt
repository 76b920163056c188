-- The bytes, and the numbers in them, hold the same.
-- Assumes nothing.
use mathlib.Core.Path.{◌≡◌, refl, sym, ◌∙◌}
use mathlib.Core.List.{List, [], ◌∷◌}
use Prim.Native.Nat.{ℕ, ◌+◌, ◌*◌, ◌/◌, ◌%◌, ◌<◌}
use native.Mathlib.Omega.{arith}
use lib.Dec.{eqb}
use lib.ListN.{length, get_or}
use borrow.Author.Tests.{eqb-true}
use Rattle.numbers.proofs.Every.{every, at}
use Rattle.numbers.proofs.Bytes.{spread}
use Rattle.report.specs.Bytes.{three, three_at, twelve_high, high_at, twelve_low, codes_in, report_in, packed}
use Rattle.report.specs.declared.Codes.{Codes}
use Rattle.message_types.specs.declared.Report.{Report}

-- each number fits its bits
pub record Fit (c : Codes) : Type 0 where
  pub latitude_fits : c.latitude < 0x1000000
  pub longitude_fits : c.longitude < 0x1000000
  pub altitude_fits : c.altitude < 0x1000
  pub kind_fits : c.kind < 4
  pub extrapolated_fits : c.extrapolated < 2
  pub airborne_fits : c.airborne < 2
  pub speed_fits : c.speed < 0x1000
  pub climb_fits : c.climb < 0x1000

-- ---- numbers to bytes and back

pub from_three : (n : ℕ) → n < 0x1000000 → three (n / 65536 % 256) (n / 256 % 256) (n % 256) ≡ n
from_three n h = omega arith

-- the two halves of a byte
pub upper : (a b : ℕ) → a < 16 → (a % 16 * 16 + b % 16) / 16 ≡ a
upper a b h = omega arith

pub lower : (a b : ℕ) → b < 16 → (a % 16 * 16 + b % 16) % 16 ≡ b
lower a b h = omega arith

-- twelve bits and half a byte; half a byte and twelve bits
from_high : (n b : ℕ) → n < 0x1000 → b < 16 → twelve_high (n / 16 % 256) (n % 16 * 16 + b) ≡ n
from_high n b h k = omega arith

from_low : (n b : ℕ) → n < 0x1000 → twelve_low (b % 16 * 16 + n / 256 % 16) (n % 256) ≡ n
from_low n b h = omega arith

-- the byte that ends with the three indicators
module _ (d a e k : ℕ) where
  abbrev indicators : ℕ
  indicators = a % 2 * 8 + e % 2 * 4 + k % 4

  indicators_fit : indicators < 16
  indicators_fit = omega arith

  its_kind : k < 4 → (d % 16 * 16 + indicators) % 4 ≡ k
  its_kind h = omega arith

  its_extrapolated : e < 2 → (d % 16 * 16 + indicators) / 4 % 2 ≡ e
  its_extrapolated h = omega arith

  its_airborne : a < 2 → (d % 16 * 16 + indicators) / 8 % 2 ≡ a
  its_airborne h = omega arith

pub codes_back : (id : ℕ) (r : Report) (c : Codes) → Fit c → codes_in (packed id r c) ≡ c
codes_back id r c f = λ i. record {
  latitude = from_three c.latitude f.latitude_fits i;
  longitude = from_three c.longitude f.longitude_fits i;
  altitude = from_high c.altitude _ f.altitude_fits (indicators_fit c.altitude c.airborne c.extrapolated c.kind) i;
  kind = its_kind c.altitude c.airborne c.extrapolated c.kind f.kind_fits i;
  extrapolated = its_extrapolated c.altitude c.airborne c.extrapolated c.kind f.extrapolated_fits i;
  airborne = its_airborne c.altitude c.airborne c.extrapolated c.kind f.airborne_fits i;
  speed = from_high c.speed _ f.speed_fits (quarter c.climb) i;
  climb = from_low c.climb c.speed f.climb_fits i;
}
  where
    quarter : (n : ℕ) → n / 256 % 16 < 16
    quarter n = omega arith

-- ---- bytes to numbers and back

abbrev indicators_in : ℕ → ℕ
indicators_in n = n / 8 % 2 % 2 * 8 + n / 4 % 2 % 2 * 4 + n % 4 % 4

indicators_back : (n : ℕ) → n < 256 → indicators_in n ≡ n % 16
unfolding every
indicators_back n h = eqb-true _ _ (at (λ k. eqb (indicators_in k) (k % 16)) 256 refl n h)

lower_kept : (a b : ℕ) → b < 256 → twelve_high a b % 16 * 16 + b % 16 ≡ b
lower_kept a b h = omega arith

module _ (m : List ℕ) (b : (i : ℕ) → get_or m i 0 < 256) where
  pub fit_in : Fit (codes_in m)
  fit_in = record {
    latitude_fits = omega (arith, b 5, b 6, b 7);
    longitude_fits = omega (arith, b 8, b 9, b 10);
    altitude_fits = omega (arith, b 11, b 12);
    kind_fits = omega arith;
    extrapolated_fits = omega arith;
    airborne_fits = omega arith;
    speed_fits = omega (arith, b 14, b 15);
    climb_fits = omega (arith, b 15, b 16);
  }

  halves : (k : ℕ) → get_or m k 0 / 16 % 16 * 16 + get_or m k 0 % 16 % 16 ≡ get_or m k 0
  halves k = omega (arith, b k)

  first : (k : ℕ) → three_at m k / 65536 % 256 ≡ get_or m k 0
  first k = omega (arith, b k, b (k + 1), b (k + 2))

  second : (k : ℕ) → three_at m k / 256 % 256 ≡ get_or m (k + 1) 0
  second k = omega (arith, b k, b (k + 1), b (k + 2))

  third : (k : ℕ) → three_at m k % 256 ≡ get_or m (k + 2) 0
  third k = omega (arith, b k, b (k + 1), b (k + 2))

  high : (k : ℕ) → high_at m k / 16 % 256 ≡ get_or m k 0
  high k = omega (arith, b k, b (k + 1))

  indicated : (codes_in m).altitude % 16 * 16 + ((codes_in m).airborne % 2 * 8 + (codes_in m).extrapolated % 2 * 4 + (codes_in m).kind % 4) ≡ get_or m 12 0
  indicated = rw (indicators_back (get_or m 12 0) (b 12)) (lower_kept (get_or m 11 0) (get_or m 12 0) (b 12))

  between : (codes_in m).speed % 16 * 16 + (codes_in m).climb / 256 % 16 ≡ get_or m 15 0
  between = omega (arith, b 14, b 15, b 16)

  low : (codes_in m).climb % 256 ≡ get_or m 16 0
  low = omega (arith, b 15, b 16)

  pub bytes_back : (id : ℕ) → length m ≡ 28 → get_or m 0 0 ≡ id → packed id (report_in m) (codes_in m) ≡ m
  unfolding report_in
  bytes_back id long e =
      (λ j. sym e j ∷ halves 1 j ∷ first 2 j ∷ second 2 j ∷ third 2 j ∷ first 5 j ∷ second 5 j ∷ third 5 j ∷ first 8 j ∷ second 8 j ∷ third 8 j
      ∷ high 11 j ∷ indicated j ∷ halves 13 j ∷ high 14 j ∷ between j ∷ low j ∷ get_or m 17 0 ∷ get_or m 18 0 ∷ get_or m 19 0 ∷ get_or m 20 0
      ∷ get_or m 21 0 ∷ get_or m 22 0 ∷ get_or m 23 0 ∷ get_or m 24 0 ∷ get_or m 25 0 ∷ get_or m 26 0 ∷ halves 27 j ∷ [])
      ∙ sym (spread 28 m long)
