-- The code characters of weather texts (001 §5.2.2.2; RULES 'Weather texts').
-- Assumes nothing.
use Rattle.std.specs.Prelude.{ℕ, zero, suc, Bool, true, cond, ◌&&◌, List, [], ◌∷◌, eqb, ltb, get_or}

-- n numbers from `first` on, before others
abbrev pub from : ℕ → ℕ → List ℕ → List ℕ
from first zero rest = rest
from first (suc n) rest = first ∷ from (suc first) n rest

-- the 64 code characters: 1 to 26 are A to Z, 29 separates records, 30 is a new line, 32 to 63 are ASCII's; 0 where a code is no
-- character: the end, 27, the tab (28) and 31
abbrev pub code_characters : List ℕ
code_characters = 0 ∷ from 0x41 26 (0 ∷ 0 ∷ 0x1E ∷ 0x0A ∷ 0 ∷ from 32 32 [])

-- the byte of a code, 0 where it is no character
unfoldable pub character_of : ℕ → ℕ
character_of code = get_or code_characters code 0

-- the place of a byte in a list whose first place is `place`; 0 where it is not there
unfoldable pub place_in : ℕ → ℕ → List ℕ → ℕ
place_in b place [] = 0
place_in b place (c ∷ cs) = cond (eqb b c) place (place_in b (suc place) cs)

-- the code of a byte; 0 for byte 0, which stands for no character there, and where the list lacks it
unfoldable pub code_of : ℕ → ℕ
code_of b = place_in b 0 code_characters

-- the list has a byte
abbrev pub is_listed : ℕ → Bool
is_listed b = ltb 0 (code_of b)

-- the list has every byte of a text
unfoldable pub are_listed : List ℕ → Bool
are_listed [] = true
are_listed (b ∷ bs) = is_listed b && are_listed bs
