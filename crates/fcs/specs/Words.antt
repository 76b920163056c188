-- The 16 words that the check sequence is worked out from, half a byte at a time (RULES 'Check sequence').
-- Assumes nothing.
use Rattle.std.specs.Prelude.{ℕ, ◌*◌, ◌/◌, ◌%◌, [], ◌∷◌}
use Rattle.numbers.specs.Bits.{◌⊕◌}
use Rattle.fcs.specs.Fcs.{fcs}

-- word i is the sequence of the message i, 00, 00
abbrev pub word_of : ℕ → ℕ
word_of i = fcs (i ∷ 0 ∷ 0 ∷ [])

-- half a byte more of the division: the highest of the four half bytes leaves above and comes back below as its word
unfoldable pub half_step : ℕ → ℕ → ℕ
half_step r h = r % 4096 * 16 ⊕ word_of (r / 4096 % 16) ⊕ h

-- a byte more of the division: its two half bytes, the higher first
unfoldable pub by_halves : ℕ → ℕ → ℕ
by_halves r b = half_step (half_step r (b / 16)) (b % 16)
