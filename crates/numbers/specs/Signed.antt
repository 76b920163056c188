-- Two's complement in a field of a message. `half` is the weight of the field's sign bit.
-- Assumes nothing.
use Rattle.std.specs.Prelude.{ℕ, ◌-◌, ◌*◌, cond, ltb, ℤ, pos, negsuc}

-- the number that the field's bits n stand for
unfoldable pub signed_in : ℕ → ℕ → ℤ
signed_in half n = cond (ltb n half) (pos n) (negsuc (2 * half - 1 - n))

-- the field's bits that stand for a number
unfoldable pub field_of : ℕ → ℤ → ℕ
field_of half (pos n) = n
field_of half (negsuc k) = 2 * half - 1 - k
