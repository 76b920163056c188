-- A recording, cut at its flags (001 §2.2.1, RULES 'Recordings').
-- Assumes nothing.
use Rattle.std.specs.Prelude.{ℕ, ◌+◌, ◌-◌, cond, List, [], ◌∷◌, eqb, length, take, drop}
use Rattle.framing.specs.Stuffing.{flag}

-- a byte in front of the first part
abbrev pub onto : ℕ → List (List ℕ) → List (List ℕ)
onto b [] = []
onto b (p ∷ ps) = (b ∷ p) ∷ ps

-- the bytes before the first flag, those between each two, and those behind the last
unfoldable pub cut : List ℕ → List (List ℕ)
cut [] = [] ∷ []
cut (b ∷ bs) = cond (eqb b flag) ([] ∷ cut bs) (onto b (cut bs))

-- all parts but the last, which no flag closes
abbrev pub closed_parts : List (List ℕ) → List (List ℕ)
closed_parts ps = take (length ps - 1) ps

-- and not the first, the lead-in
unfoldable pub between_flags : List (List ℕ) → List (List ℕ)
between_flags ps = drop 1 (closed_parts ps)

-- how many flags there are
unfoldable pub flag_count : List ℕ → ℕ
flag_count [] = 0
flag_count (b ∷ bs) = cond (eqb b flag) 1 0 + flag_count bs
