-- The ways reading and writing a text end.
-- Assumes nothing.
use mathlib.Core.Path.{◌≡◌, refl, sym, ap, ◌∙◌}
use mathlib.Core.Bool.{true, false}
use Prim.Native.Nat.{ℕ, ◌+◌, ◌-◌, ◌/◌, ◌≤◌, ◌<◌, min}
use mathlib.Core.List.{List, ◌++◌}
use mathlib.Core.Option.{Option, none, some}
use native.Mathlib.Omega.{arith}
use native.Mathlib.Nat.{zero-add}
use lib.ListN.{length, get_or, take, drop, length-drop}
use lib.Seq.{take_all}
use borrow.Author.Tests.{lt-ltb, le-ltb, le-leb, lt-leb}
use Rattle.numbers.specs.Lent.{written, Stored}
use Rattle.numbers.proofs.Storing.{from_first}
use Rattle.std.specs.Prelude.{Result, Ok, Err}
use Rattle.refusals.specs.declared.Refusal.{Refusal}
use Rattle.refusals.specs.declared.Refusal.TheVariants.{BadField, NoRoom, NoHeader, NoText, NoCharacter}
use Rattle.characters.specs.Characters.{are_listed}
use Rattle.generic_text.specs.Texts.{text_of_codes}
use Rattle.generic_text.specs.Product.{text_with, is_generic_text, hours_in, minutes_in, padding_in, Decoded, with_header, decode, is_fit, header_of, closed_bytes, encode}
use Rattle.generic_text.specs.Answers.{text_of, text_reading, decoded_text, ReadText, text_writing, WroteText}
use Rattle.generic_text.specs.Codes.{codes_in, Fits, or_no_bytes, measured}
use Rattle.generic_text.proofs.Rewriting.{decode_is}
use Rattle.generic_text.proofs.Putting.{packed-length}

-- a text's header, and the codes behind it
pub walked : (apdu codes : List ℕ) → 4 ≤ length apdu → is_generic_text (get_or apdu 0 0) (get_or apdu 1 0) (get_or apdu 2 0) ≡ true
    → codes ≡ codes_in (take (length apdu - 4) (drop 4 apdu)) → decode apdu ≡ with_header (get_or apdu 2 0) (get_or apdu 3 0) (text_of_codes codes)
walked apdu codes h e f =
    decode_is apdu h e
    ∙ ap (λ (l : List ℕ). with_header (get_or apdu 2 0) (get_or apdu 3 0) (text_of_codes l)) (sym (f ∙ ap codes_in (take_all (length apdu - 4) (drop 4 apdu) (omega (arith, length-drop 4 apdu)))))

module _ (apdu out : List ℕ) where
  pub read_short : length apdu < 4 → ReadText (decode apdu) out (Err NoHeader) out
  unfolding decode text_reading written
  read_short h = record { answers = simp (lt-ltb (length apdu) 4 h); leaves = refl }

  pub read_other : 4 ≤ length apdu → is_generic_text (get_or apdu 0 0) (get_or apdu 1 0) (get_or apdu 2 0) ≡ false → ReadText (decode apdu) out (Err NoText) out
  unfolding decode text_reading written
  read_other h e = record { answers = simp (le-ltb (length apdu) 4 h, e); leaves = refl }

  -- what was measured behind it
  module _ (c d : ℕ) where
    pub read_fault : (t : Option (List ℕ)) (k : Refusal) → decode apdu ≡ with_header c d t → Err k ≡ measured t (length out) → ReadText (decode apdu) out (Err k) out
    unfolding text_reading written
    read_fault (some t) k e m = absurd (let z : ◌≡◌ {A = ℕ} 0 1 = cc m in omega arith)
    read_fault none k e m = let f : k ≡ NoCharacter = cc m in rw f record { answers = sym (ap (λ (x : Decoded). text_reading x (length out)) e); leaves = refl }

    pub read_long : (t : Option (List ℕ)) (n : ℕ) → decode apdu ≡ with_header c d t → Ok n ≡ measured t (length out) → length out < n → ReadText (decode apdu) out (Err NoRoom) out
    unfolding text_reading written
    read_long none n e m l = absurd (let z : ◌≡◌ {A = ℕ} 0 1 = cc m in omega arith)
    read_long (some t) n e m l =
        let size : n ≡ min (length t) (length out + 1) = cc m in
        record { answers = sym (ap (λ (x : Decoded). text_reading x (length out)) e ∙ simp (lt-leb (length t) (length out) (omega arith))); leaves = refl }

    pub read_done : (t : Option (List ℕ)) (n : ℕ) (left : List ℕ) → decode apdu ≡ with_header c d t → Ok n ≡ measured t (length out) → n ≤ length out
        → left ≡ written (or_no_bytes t) out → ReadText (decode apdu) out (Ok (text_of (hours_in c) (minutes_in c d) (padding_in d) n)) left
    unfolding text_reading
    read_done none n left e m l w = absurd (let z : ◌≡◌ {A = ℕ} 0 1 = cc m in omega arith)
    read_done (some t) n left e m l w =
        let size : n ≡ min (length t) (length out + 1) = cc m in
        let whole : length t ≡ n = omega arith in
        record {
          answers = sym (ap (λ (x : Decoded). text_reading x (length out)) e ∙ simp (whole, le-leb n (length out) (omega arith)));
          leaves = w ∙ ap (λ (x : Decoded). written (decoded_text x) out) (sym e);
        }

-- a text that is no longer than the room
pub measured_fits : (t : Option (List ℕ)) (room n : ℕ) → Ok n ≡ measured t room → n ≤ room → Fits t room
measured_fits none room n m l = absurd (let z : ◌≡◌ {A = ℕ} 0 1 = cc m in omega arith)
measured_fits (some t) room n m l = let size : n ≡ min (length t) (room + 1) = cc m in omega arith

module _ (h m p : ℕ) (text out : List ℕ) where
  pub encode-length : length (encode (text_with h m p text)) ≡ 4 + ((length text + 1) - (length text + 1) / 4)
  unfolding encode header_of
  encode-length = omega (arith, packed-length text)

  pub write_wide : is_fit h m p ≡ false → WroteText (text_with h m p text) out (Err BadField) out
  unfolding text_writing written
  write_wide f = record { answers = simp f; leaves = refl }

  module _ (f : is_fit h m p ≡ true) where
    pub write_lacking : are_listed text ≡ false → WroteText (text_with h m p text) out (Err NoCharacter) out
    unfolding text_writing written
    write_lacking l = record { answers = simp (f, l); leaves = refl }

    module _ (l : are_listed text ≡ true) where
      pub write_full : length out < 4 + ((length text + 1) - (length text + 1) / 4) → WroteText (text_with h m p text) out (Err NoRoom) out
      unfolding text_writing written
      write_full r = record { answers = simp (f, l, lt-leb (length (encode (text_with h m p text))) (length out) (omega (arith, encode-length))); leaves = refl }

      pub write_done : (n : ℕ) (left : List ℕ) → length (encode (text_with h m p text)) ≤ length out → Stored out 0 (header_of h m p ++ closed_bytes text) n left
          → WroteText (text_with h m p text) out (Ok n) left
      unfolding text_writing encode
      write_done n left r s = record {
        answers = ap {B = Result ℕ Refusal} (λ (k : ℕ). Ok k) (s.ends ∙ zero-add (length (encode (text_with h m p text)))) ∙ simp (f, l, le-leb (length (encode (text_with h m p text))) (length out) r);
        leaves = s.leaves ∙ from_first (encode (text_with h m p text)) out r;
      }
