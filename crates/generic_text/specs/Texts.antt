-- The text that codes of six bits make (001 §5.2.2.2; RULES 'Weather texts').
-- Assumes nothing.
use Rattle.std.specs.Prelude.{ℕ, ◌<◌, cond, List, [], ◌∷◌, ◌++◌, eqb, replicate}
use Rattle.std.proofs.Math.Option.{Option, none, some}
use Rattle.characters.specs.Characters.{character_of}

abbrev pub end : ℕ
end = 0

abbrev pub tab : ℕ
tab = 28

abbrev pub space : ℕ
space = 32

-- bytes before those of a text
abbrev pub before : List ℕ → Option (List ℕ) → Option (List ℕ)
before bs (some t) = some (bs ++ t)
before bs none = none

-- a character before a text, or no text
abbrev pub before_character : ℕ → Option (List ℕ) → Option (List ℕ)
before_character code t = cond (eqb (character_of code) 0) none (before (character_of code ∷ []) t)

-- the text of codes: it ends at code 0, as at the end; a tab's next code counts spaces; none for a code that is no character, and
-- for a tab with no count
unfoldable pub text_of_codes : List ℕ → Option (List ℕ)
text_of_codes [] = some []
text_of_codes (c ∷ []) = cond (eqb c end) (some []) (before_character c (some []))
text_of_codes (c ∷ n ∷ cs) =
    cond (eqb c end) (some [])
    (cond (eqb c tab) (before (replicate n space) (text_of_codes cs))
    (before_character c (text_of_codes (n ∷ cs))))

-- every code is a character's
abbrev pub AreCharacters : List ℕ → Type 0
AreCharacters [] = Unit {0}
AreCharacters (code ∷ codes) = (0 < character_of code) × AreCharacters codes
