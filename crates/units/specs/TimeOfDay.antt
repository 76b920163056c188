-- The time of day (001 §3.1.3, RULES 'Time of day'), in seconds since midnight, UTC.
-- Assumes nothing.
use Rattle.std.specs.Prelude.{ℕ, Bool, leb}

-- the last second of a day that ends with a leap second, 23:59:60
abbrev pub last_second : ℕ
last_second = 86400

abbrev pub is_time_of_day : ℕ → Bool
is_time_of_day second = leb second last_second
