-- Steps as degrees (001 §3.5.1.3, RULES 'Degrees'). That nothing is lost is said over whole numbers, of the float's 64 bits.
-- Assumes nothing.
use Rattle.std.specs.Prelude.{◌≡◌, Bool, cond, not, ℕ, ◌+◌, ◌-◌, ◌*◌, ◌/◌, ◌%◌, ◌^◌, ◌<◌, leb, eqb, ℤ, nat_abs, Float, Result, Ok, Err}
use Rattle.std.specs.Int.Signed.{non_neg, mag}
use Rattle.std.specs.Float.{binary64}
use Rattle.std.specs.Float.Ieee.{mul, div, of_int, of_bits, to_bits}
use Rattle.refusals.specs.declared.Refusal.{Refusal}
use Rattle.refusals.specs.declared.Refusal.TheVariants.{BadField}
use Rattle.refusals.specs.Numbers.{refusal_number}
use Rattle.units.specs.declared.Degrees.{Degrees}

-- the float n, times 180.0, over 8388608.0
abbrev pub degrees : ℤ → Float
degrees n = div binary64 (mul binary64 (of_int binary64 n) (of_bits binary64 0x4066_8000_0000_0000)) (of_bits binary64 0x4160_0000_0000_0000)

-- 8 for a step number that 24 bits do not hold: `mag` of n and of -(n + 1) is n
unfoldable pub in_degrees : ℤ → ℤ → Result Degrees Refusal
in_degrees latitude longitude =
    cond (leb 8388608 (mag latitude)) (Err BadField)
    (cond (leb 8388608 (mag longitude)) (Err BadField) (Ok (record { latitude = degrees latitude; longitude = degrees longitude })))

-- the three fields of a float's 64 bits
abbrev pub sign_bit : ℕ → Bool
sign_bit b = leb (2 ^ 63) b

abbrev pub exponent : ℕ → ℕ
exponent b = b % 2 ^ 63 / 2 ^ 52

abbrev pub fraction : ℕ → ℕ
fraction b = b % 2 ^ 52

-- the fraction with the leading digit, which an exponent's field of 0 has not
abbrev pub significand : ℕ → ℕ
significand b = cond (eqb (exponent b) 0) (fraction b) (2 ^ 52 + fraction b)

-- a finite float is significand * 2 ^ (exponent - 1) in units of 2 ^ -1074, where a field of 0 counts as 1. With the exponent raised
-- by 23 it is 180n
pub record Exactly (n : ℤ) (b : ℕ) : Type 0 where
  pub sign : sign_bit b ≡ not (non_neg n)
  pub finite : exponent b < 2047
  pub value : significand b * 2 ^ (exponent b - 1 + 23) ≡ 180 * nat_abs n * 2 ^ 1074

-- an answer that is no refusal is exact
unfoldable pub ExactlyAt : ℤ → ℤ → Result Degrees Refusal → Type 0
ExactlyAt latitude longitude (Ok d) = Exactly latitude (to_bits binary64 d.latitude) × Exactly longitude (to_bits binary64 d.longitude)
ExactlyAt latitude longitude (Err e) = e ≡ BadField

-- the two values for each case, 0 beside a refusal
abbrev pub degrees_of : Result Degrees Refusal → Degrees
degrees_of (Ok d) = d
degrees_of (Err e) = record { latitude = of_bits binary64 0; longitude = of_bits binary64 0 }
