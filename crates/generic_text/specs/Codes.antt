-- Where reading stands between two codes, and what it finds there.
-- Assumes nothing.
use Rattle.std.specs.Prelude.{◌≡◌, ℕ, ◌+◌, ◌<◌, ◌≤◌, min, List, [], ◌∷◌, ◌++◌, Option as Answer, Some, None, Result, Ok, Err, MatchOption, length, replicate}
use Rattle.std.proofs.Math.Option.{Option, none, some}
use Rattle.numbers.specs.Packing.{bits_of, bits_in, numbers_in}
use Rattle.refusals.specs.declared.Refusal.{Refusal}
use Rattle.refusals.specs.declared.Refusal.TheVariants.{NoCharacter}
use Rattle.generic_text.specs.declared.six_bits.Codes.{Codes}
use Rattle.generic_text.specs.declared.six_bits.Run.{Run}
use Rattle.generic_text.specs.Texts.{before, text_of_codes}

-- the codes in the low bits of a byte, and in the bytes behind it
unfoldable pub codes_of : ℕ → ℕ → List ℕ → List ℕ
codes_of width last rest = numbers_in 6 (bits_of width last ++ bits_in 8 rest)

-- the codes in bytes
abbrev pub codes_in : List ℕ → List ℕ
codes_in bytes = numbers_in 6 (bits_in 8 bytes)

-- the codes that are left
abbrev pub codes_left : Codes → List ℕ
codes_left s = codes_of s.width s.last s.rest.now

-- the first code and those behind it, or none
abbrev pub NextCode : Codes → Answer (ℕ × Codes) → Type 0
NextCode s r = MatchOption r (codes_left s ≡ []) (λ x. (codes_left s ≡ x.0 ∷ codes_left x.1) × (x.0 < 64))

-- these bytes stand before the text of fewer codes
pub record Passes (codes passed left : List ℕ) : Type 0 where
  pub is : text_of_codes codes ≡ before passed (text_of_codes left)
  pub fewer : length left < length codes

-- of codes: a byte so many times and the codes behind it, the text's end, or no text
abbrev pub NextRun : List ℕ → Result (Answer (Run × Codes)) Refusal → Type 0
NextRun codes (Ok (Some x)) = Passes codes (replicate x.0.times x.0.byte) (codes_left x.1)
NextRun codes (Ok None) = text_of_codes codes ≡ some []
NextRun codes (Err k) = (text_of_codes codes ≡ none) × (k ≡ NoCharacter)

-- if four characters are told, they are those of the next four codes
abbrev pub NextFour : Codes → Answer (List ℕ × Codes) → Type 0
NextFour s None = Unit {0}
NextFour s (Some x) = Passes (codes_left s) x.0 (codes_left x.1) × (length x.0 ≡ 4)

-- a text, if there is one, fits a room; no text does not
abbrev pub Fits : Option (List ℕ) → ℕ → Type 0
Fits (some t) room = length t ≤ room
Fits none room = ⊥

abbrev pub or_no_bytes : Option (List ℕ) → List ℕ
or_no_bytes (some t) = t
or_no_bytes none = []

-- the length of a text, counted no further than one more than the room
abbrev pub measured : Option (List ℕ) → ℕ → Result ℕ Refusal
measured (some t) room = Ok (min (length t) (room + 1))
measured none room = Err NoCharacter
