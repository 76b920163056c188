-- The Generic Text product (001 §5.2; RULES 'Weather texts'): its bytes, and the texts that they hold.
-- Assumes nothing.
use Rattle.std.specs.Prelude.{ℕ, ◌+◌, ◌*◌, ◌/◌, ◌%◌, Bool, cond, ◌&&◌, List, [], ◌∷◌, ◌++◌, map, eqb, ltb, length, get_or, drop, replicate}
use Rattle.std.proofs.Math.Option.{Option, none, some}
use Rattle.numbers.specs.Packing.{bits_in, numbers_in}
use Rattle.refusals.specs.declared.Refusal.{Refusal}
use Rattle.refusals.specs.declared.Refusal.TheVariants.{NoHeader, NoText, NoCharacter}
use Rattle.characters.specs.Characters.{code_of}
use Rattle.generic_text.specs.Texts.{text_of_codes}

-- a text, with what its header carries as it stands
pub record Text : Type 0 where
  pub hours : ℕ
  pub minutes : ℕ
  pub padding : ℕ
  pub characters : List ℕ

abbrev pub text_with : ℕ → ℕ → ℕ → List ℕ → Text
text_with h m p cs = record { hours = h; minutes = m; padding = p; characters = cs }

abbrev pub product : ℕ
product = 413

-- of the header's four bytes a, b, c, d (001 §5.2.2.1): it is a text's where the product is text, in the low bits of a and the high ones of b,
-- and every other bit before the hours, in c, is 0
abbrev pub is_generic_text : ℕ → ℕ → ℕ → Bool
is_generic_text a b c = eqb (a / 32) 0 && (eqb (a % 32 * 64 + b / 4) product && (eqb (b / 2 % 2) 0 && eqb (b % 2 * 2 + c / 128) 0))

abbrev pub hours_in : ℕ → ℕ
hours_in c = c / 4 % 32

abbrev pub minutes_in : ℕ → ℕ → ℕ
minutes_in c d = c % 4 * 16 + d / 16

abbrev pub padding_in : ℕ → ℕ
padding_in d = d % 16

-- the text that bytes hold, or why they hold none
pub data Decoded : Type 0 where
  decoded : Text → Decoded
  refused : Refusal → Decoded

abbrev pub with_header : ℕ → ℕ → Option (List ℕ) → Decoded
with_header c d (some t) = decoded (text_with (hours_in c) (minutes_in c d) (padding_in d) t)
with_header c d none = refused NoCharacter

-- `NoHeader` for fewer than four header bytes; `NoText` unless the header is a text's; `NoCharacter` for codes that make no text. Codes are six bits each,
-- packed high bit first; leftover bits are not read
unfoldable pub decode : List ℕ → Decoded
decode apdu =
    cond (ltb (length apdu) 4) (refused NoHeader)
    (cond (is_generic_text (get_or apdu 0 0) (get_or apdu 1 0) (get_or apdu 2 0))
    (with_header (get_or apdu 2 0) (get_or apdu 3 0) (text_of_codes (numbers_in 6 (bits_in 8 (drop 4 apdu)))))
    (refused NoText))

-- each field of the header fits its bits
abbrev pub is_fit : ℕ → ℕ → ℕ → Bool
is_fit h m p = ltb h 32 && (ltb m 64 && ltb p 16)

unfoldable pub header_of : ℕ → ℕ → ℕ → List ℕ
header_of h m p = product / 64 ∷ (product % 64 * 4) ∷ (h * 4 + m / 16) ∷ (m % 16 * 16 + p) ∷ []

-- the bytes of codes: zero bits fill the last byte, as many of seven as it lacks
unfoldable pub code_bytes : List ℕ → List ℕ
code_bytes codes = numbers_in 8 (bits_in 6 codes ++ replicate 7 0)

-- the characters' codes, closed by one code 0
abbrev pub closed_bytes : List ℕ → List ℕ
closed_bytes cs = code_bytes (map code_of cs ++ (0 ∷ []))

unfoldable pub encode : Text → List ℕ
encode t = header_of t.hours t.minutes t.padding ++ closed_bytes t.characters
