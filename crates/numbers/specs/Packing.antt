-- Numbers of some bits each, one directly behind the other, the high bit first (RULES 'Check sequence', 'Weather texts').
-- Assumes nothing.
use Rattle.std.specs.Prelude.{ℕ, zero, suc, ◌+◌, ◌*◌, List, [], ◌∷◌, ◌++◌}
use Rattle.numbers.specs.Bits.{bit}

-- the low `width` bits of a number
unfoldable pub bits_of : ℕ → ℕ → List ℕ
bits_of zero n = []
bits_of (suc k) n = bit k n ∷ bits_of k n

-- the bits of numbers of `width` bits each
unfoldable pub bits_in : ℕ → List ℕ → List ℕ
bits_in width [] = []
bits_in width (n ∷ ns) = bits_of width n ++ bits_in width ns

-- the numbers of `width` bits each in a row of bits, of which n was made already and lacks `missing` bits. Bits that are left behind
-- the last whole number are not read; a number that lacks none, so of width 0, there is not
unfoldable pub gather : ℕ → ℕ → ℕ → List ℕ → List ℕ
gather width n missing [] = []
gather width n zero (b ∷ bs) = []
gather width n (suc zero) (b ∷ bs) = (n * 2 + b) ∷ gather width 0 width bs
gather width n (suc (suc k)) (b ∷ bs) = gather width (n * 2 + b) (suc k) bs

unfoldable pub numbers_in : ℕ → List ℕ → List ℕ
numbers_in width bs = gather width 0 width bs
