-- Records of a program's input: a header, in which the size of the body stands, and the body.
-- Assumes nothing.
use Rattle.std.specs.Prelude.{◌≡◌, ℕ, ◌+◌, ◌*◌, ◌≤◌, ◌<◌, Option, Result, MatchOption, MatchResult, List, [], ◌++◌, length, take, slice_index}
use Rattle.printing.specs.declared.Record.{Record}
use Rattle.printing.specs.declared.CutShort.{CutShort}

-- the size that stands in a header from a place on, high byte first
abbrev pub size_in : ℕ → List ℕ → ℕ
size_in at header = slice_index header at * 256 + slice_index header (at + 1)

-- an input is a record, with a header of n bytes, and the rest
pub record Begins (n at : ℕ) (input : List ℕ) (r : Record n) (rest : List ℕ) : Type 0 where
  pub header : length r.header.now ≡ n
  pub body : length r.body.now ≡ size_in at r.header.now
  pub whole : input ≡ r.header.now ++ (r.body.now ++ rest)

-- an input ends within the body of its record
pub record Ends (n at : ℕ) (input rest : List ℕ) : Type 0 where
  pub header : n ≤ length input
  pub short : length input < n + size_in at (take n input)
  pub none : rest ≡ []

-- what taking a record from an input answers, and the rest
abbrev pub Takes : (n at : ℕ) → List ℕ → Option (Result (Record n) CutShort) → List ℕ → Type 0
Takes n at input r rest = MatchOption r (length input < n) (λ x. MatchResult x (λ y. Begins n at input y rest) (λ _. Ends n at input rest))
