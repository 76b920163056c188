-- The time of reception (001 §3.3.1, RULES 'Uplink').
-- Assumes nothing.
use Rattle.std.specs.Prelude.{ℕ, ◌+◌, ◌*◌, Bool, true, cond, List, eqb, leb, get_or, Option, Some, None}

-- three bytes, low first; all ones are none
unfoldable pub reception_of : ℕ → ℕ → ℕ → Option ℕ
reception_of low middle high =
    cond (eqb (high * 65536 + middle * 256 + low) 0xFFFFFF) None (Some (high * 65536 + middle * 256 + low))

-- behind the id
abbrev pub reception_in : List ℕ → Option ℕ
reception_in m = reception_of (get_or m 1 0) (get_or m 2 0) (get_or m 3 0)

-- the last step of a second
abbrev pub last_step : ℕ
last_step = 12499999

-- within the second, or none
abbrev pub good_reception : Option ℕ → Bool
good_reception (Some n) = leb n last_step
good_reception None = true

abbrev pub reception_number : Option ℕ → ℕ
reception_number (Some n) = n
reception_number None = 0xFFFFFF
