-- What is stored of a text's codes.
-- Assumes nothing.
use Rattle.std.specs.Prelude.{ℕ, ◌+◌, ◌*◌, ◌/◌, ◌%◌, List, [], ◌∷◌}

-- the bytes of four codes
abbrev pub three_of : ℕ → ℕ → ℕ → ℕ → List ℕ
three_of a b c d =
    (((a * 64 + b) * 64 + c) * 64 + d) / 65536 % 256 ∷ (((a * 64 + b) * 64 + c) * 64 + d) / 256 % 256 ∷ (((a * 64 + b) * 64 + c) * 64 + d) % 256 ∷ []
