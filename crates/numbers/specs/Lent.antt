-- What writing leaves in lent memory (RULES 'Numbers'), and parts of it that are handed back.
-- Assumes nothing.
use Rattle.std.specs.Prelude.{◌≡◌, ℕ, ◌+◌, List, ◌++◌, length, take, drop}
use Rattle.std.proofs.lemmas.List.Edits.{sets}

-- the bytes in the first places, and every place behind them as it was
unfoldable pub written : List ℕ → List ℕ → List ℕ
written bytes out = bytes ++ drop (length bytes) out

-- the bytes were stored one after the other from `at` on; `next` is the place behind them
pub record Stored (out : List ℕ) (at : ℕ) (bytes : List ℕ) (next : ℕ) (left : List ℕ) : Type 0 where
  pub ends : next ≡ at + length bytes
  pub leaves : left ≡ sets out at bytes

-- so many of the bytes, from a place on
abbrev pub stretch : ℕ → ℕ → List ℕ → List ℕ
stretch start size whole = take size (drop start whole)

-- so many bytes behind a place in memory, which is a block and a byte of it
abbrev pub behind : ℕ → ℕ × ℕ → ℕ × ℕ
behind start at = (at.0, start + at.1)

-- what is handed back is that stretch of the lent bytes, in their own memory
pub record Part (start size : ℕ) (whole : List ℕ) (at : ℕ × ℕ) (part : List ℕ) (place : ℕ × ℕ) : Type 0 where
  pub holds : part ≡ stretch start size whole
  pub stands : place ≡ behind start at
