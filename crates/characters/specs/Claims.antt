-- What is proved of the code characters (RULES 'Weather texts').
-- Assumes nothing.
use Rattle.std.specs.Prelude.{◌≡◌, ℕ, ◌<◌, not, ◌||◌, eqb, ltb}
use Rattle.characters.specs.Characters.{character_of, code_of}

-- of the 64 codes all but 0, 27, 28 and 31 are characters
abbrev pub Which : Type 0
Which = (code : ℕ) → code < 64 → ltb 0 (character_of code) ≡ not ((eqb code 0 || eqb code 27) || (eqb code 28 || eqb code 31))

-- the list and its inverse, each undoing the other, for every number
abbrev pub Inverse : Type 0
Inverse =
    ((code : ℕ) → 0 < character_of code → code_of (character_of code) ≡ code)
    × ((b : ℕ) → 0 < code_of b → character_of (code_of b) ≡ b)
