-- What is proved of texts (RULES 'Weather texts'), over the definitions that the contracts cite.
-- Assumes nothing.
use Rattle.std.specs.Prelude.{◌≡◌, ℕ, suc, ◌+◌, ◌-◌, ◌/◌, ◌≤◌, ◌<◌, true, Result, Ok, List, [], ◌∷◌, ◌++◌, length, get_or, take, drop, replicate}
use Rattle.numbers.specs.Bytes.{AreBytes}
use Rattle.numbers.specs.Lent.{written}
use Rattle.numbers.specs.Packing.{bits_in}
use Rattle.refusals.specs.declared.Refusal.{Refusal}
use Rattle.generic_text.specs.declared.Text.{Text}
use Rattle.generic_text.specs.Texts.{AreCharacters}
use Rattle.generic_text.specs.Product as spec
use Rattle.generic_text.specs.Answers.{text_of, ReadText, text_writing, WroteText}

-- a text written and read is that text, with its header fields: the bytes that one call wrote, read by another with room for it
abbrev pub WrittenRead : Type 0
WrittenRead =
    (t : spec.Text) (out left lent after : List ℕ) (n : ℕ) (answer : Result Text Refusal) → WroteText t out (Ok n) left
    → ReadText (spec.decode (take n left)) lent answer after → length t.characters ≤ length lent
    → (answer ≡ Ok (text_of t.hours t.minutes t.padding (length t.characters))) × (after ≡ written t.characters lent)

-- what is read can be written, where there is room
abbrev pub ReadWritable : Type 0
ReadWritable =
    (apdu : List ℕ) (t : spec.Text) (room : ℕ) → AreBytes apdu → spec.decode apdu ≡ spec.decoded t → length (spec.encode t) ≤ room
    → text_writing t room ≡ Ok (length (spec.encode t))

-- four codes, the closing one counted, are three bytes behind the header, and each that is left over one
abbrev pub Size : Type 0
Size = (t : spec.Text) → length (spec.encode t) ≡ 4 + (suc (length t.characters) - suc (length t.characters) / 4)

-- the longest text of a frame's data: 557 codes, two to a tab of 63 spaces, and one character
abbrev pub AtMost17515 : Type 0
AtMost17515 = (apdu : List ℕ) (t : spec.Text) → length apdu ≤ 422 → spec.decode apdu ≡ spec.decoded t → length t.characters ≤ 17515

-- the closed form: behind a text's header, codes of characters, so no tab; one code 0; and fewer than eight bits, all zero
pub record Closed (apdu : List ℕ) : Type 0 where
  pub whole : 4 ≤ length apdu
  pub header : spec.is_generic_text (get_or apdu 0 0) (get_or apdu 1 0) (get_or apdu 2 0) ≡ true
  pub codes : List ℕ
  pub plain : AreCharacters codes
  pub zeros : ℕ
  pub short : zeros < 8
  pub bits : bits_in 8 (drop 4 apdu) ≡ bits_in 6 (codes ++ (0 ∷ [])) ++ replicate zeros 0

-- bytes that are read, and whose text is those same bytes when it is written
pub record Rewritten (apdu : List ℕ) : Type 0 where
  pub text : spec.Text
  pub read : spec.decode apdu ≡ spec.decoded text
  pub same : spec.encode text ≡ apdu

-- bytes read and written are the same bytes exactly if they are of the closed form
abbrev pub SameExactlyIfClosed : Type 0
SameExactlyIfClosed = (apdu : List ℕ) → AreBytes apdu → (Rewritten apdu → Closed apdu) × (Closed apdu → Rewritten apdu)

-- so of two calls, one that reads and one that writes what it read: what is written is what was read exactly if that is of the closed form
abbrev pub ReadWritten : Type 0
ReadWritten =
    (apdu lent after out left : List ℕ) (h m p n k : ℕ) → AreBytes apdu → ReadText (spec.decode apdu) lent (Ok (text_of h m p n)) after
    → WroteText (spec.text_with h m p (take n after)) out (Ok k) left
    → (take k left ≡ apdu → Closed apdu) × (Closed apdu → take k left ≡ apdu)
