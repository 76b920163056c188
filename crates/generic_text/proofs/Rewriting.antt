-- Texts written and read, and bytes read and written.
-- Assumes nothing.
use mathlib.Core.Path.{◌≡◌, refl, sym, ap, ap₂, ◌∙◌}
use mathlib.Core.Bool.{Bool, true, false, cond}
use Prim.Native.Nat.{ℕ, zero, suc, ◌+◌, ◌-◌, ◌*◌, ◌/◌, ◌%◌, ◌≤◌, ◌<◌}
use mathlib.Core.List.{List, [], ◌∷◌, ◌++◌, append_assoc, append-nil, map}
use mathlib.Core.Option.{Option, none, some}
use native.Mathlib.Omega.{arith}
use lib.Dec.{eqb, ltb}
use lib.ListN.{length, get_or, take, drop, replicate, length-append, length-drop, length-replicate, replicate-append-replicate}
use lib.Seq.{take-append_seam, take-append-add, append_snoc}
use borrow.Author.Tests.{eqb-true, eq-eqb, ltb-true, ltb-false, lt-ltb, le-ltb, le-leb}
use Rattle.numbers.specs.Bits.{AreBits}
use Rattle.numbers.specs.Bytes.{AreBytes}
use Rattle.numbers.proofs.Every.{both}
use Rattle.numbers.proofs.Bytes.{byte_at}
use Rattle.numbers.specs.Packing.{bits_in, numbers_in}
use Rattle.refusals.specs.declared.Refusal.TheVariants.{NoHeader, NoText}
use Rattle.characters.specs.Characters.{character_of, code_of, are_listed}
use Rattle.generic_text.specs.Texts.{text_of_codes, AreCharacters}
use Rattle.generic_text.specs.Product.{Text, text_with, is_generic_text, hours_in, minutes_in, padding_in, decoded, refused, with_header, decode, is_fit, header_of, code_bytes, closed_bytes, encode}
use Rattle.generic_text.specs.Answers.{text_writing}
use Rattle.generic_text.specs.Claims.{ReadWritable, AtMost17515, Closed, Rewritten, SameExactlyIfClosed}
use Rattle.numbers.proofs.Packing.{both_bits, bits_in_lem, whole, numbers_first, no_number, numbers_small, numbers_fit, length-bits_in}
use Rattle.generic_text.proofs.Texts.{text_closed, codes_small, codes_back, characters_back, are_characters, is_listed_lem, text_size}

take_repeated : (n m a : ℕ) → m ≤ n → take m (replicate n a) ≡ replicate m a
take_repeated n zero a h = refl
take_repeated zero (suc m) a h = absurd (omega arith)
take_repeated (suc n) (suc m) a h = ap (λ (l : List ℕ). a ∷ l) (take_repeated n m a (omega arith))

-- whole bytes that hold a row of bits, and zero bits up to the last one's end
pub record Filled (row bytes : List ℕ) : Type 0 where
  pub zeros : ℕ
  pub short : zeros < 8
  pub is : bits_in 8 bytes ≡ row ++ replicate zeros 0

-- what is left of seven zero bits behind a row, once fewer than eight bits are cut off the end
cut : (row kept rest : List ℕ) → row ++ replicate 7 0 ≡ kept ++ rest → length rest < 8 → (z : ℕ) × (z < 8) × (kept ≡ row ++ replicate z 0)
cut row kept rest e h =
    let sizes : length row + 7 ≡ length kept + length rest = sym (length-append row (replicate 7 0)) ∙ ap length e ∙ length-append kept rest in
    let z : ℕ = length kept - length row in
    let long : length kept ≡ length row + z = omega arith in
    let few : z ≤ 7 = omega arith in (
      z,
      omega arith,
      sym (take-append_seam kept rest) ∙ ap (take (length kept)) (sym e) ∙ ap (λ (n : ℕ). take n (row ++ replicate 7 0)) long
          ∙ take-append-add row (replicate 7 0) z ∙ ap (λ (l : List ℕ). row ++ l) (take_repeated 7 z 0 few),
    )

pub filled : (row : List ℕ) → AreBits row → Filled row (numbers_in 8 (row ++ replicate 7 0))
filled row h =
    let zeros : AreBits (replicate 7 0) = omega arith in
    let w = whole 7 (row ++ replicate 7 0) (both_bits row (replicate 7 0) h zeros) in
    let c = cut row _ w.rest w.is w.fewer in
    record { zeros = c.0; short = c.1; is = c.2 }

pub packed_filled : (cs : List ℕ) → Filled (bits_in 6 (map code_of cs ++ (0 ∷ []))) (closed_bytes cs)
unfolding code_bytes
packed_filled cs = filled (bits_in 6 (map code_of cs ++ (0 ∷ []))) (bits_in_lem 6 (map code_of cs ++ (0 ∷ [])))

-- bytes of the closed form, read
closed_text : (bytes codes : List ℕ) (z : ℕ) → AreCharacters codes → bits_in 8 bytes ≡ bits_in 6 (codes ++ (0 ∷ [])) ++ replicate z 0
    → text_of_codes (numbers_in 6 (bits_in 8 bytes)) ≡ some (map character_of codes)
closed_text bytes codes z h e =
    let rest = numbers_in 6 (replicate z 0) in
    ap (λ (l : List ℕ). text_of_codes (numbers_in 6 l)) e
    ∙ ap text_of_codes (numbers_first 5 (codes ++ (0 ∷ [])) (replicate z 0) ∙ ap (λ (l : List ℕ). l ++ rest) (codes_small codes h) ∙ append_snoc codes 0 rest)
    ∙ text_closed codes rest h

bytes_small : (bs : List ℕ) → AreBytes bs → map (λ n. n % 256) bs ≡ bs
unfolding AreBytes
bytes_small [] h = refl
bytes_small (b ∷ bs) h = let k = h.0 in ap₂ (λ (n : ℕ) (l : List ℕ). n ∷ l) (omega arith) (bytes_small bs h.1)

-- and written
closed_packed : (bytes codes : List ℕ) (z : ℕ) → AreBytes bytes → AreCharacters codes → z < 8 → bits_in 8 bytes ≡ bits_in 6 (codes ++ (0 ∷ [])) ++ replicate z 0
    → closed_bytes (map character_of codes) ≡ bytes
unfolding code_bytes
closed_packed bytes codes z b h k e =
    let row = bits_in 6 (codes ++ (0 ∷ [])) in
    let seven : z + (7 - z) ≡ 7 = omega arith in
    ap (λ (l : List ℕ). numbers_in 8 (bits_in 6 (l ++ (0 ∷ [])) ++ replicate 7 0)) (codes_back codes h)
    ∙ ap (λ (l : List ℕ). numbers_in 8 (row ++ l)) (sym (replicate-append-replicate z (7 - z) 0 ∙ ap (λ (n : ℕ). replicate n 0) seven))
    ∙ ap (numbers_in 8) (sym (append_assoc row (replicate z 0) (replicate (7 - z) 0)) ∙ ap (λ (l : List ℕ). l ++ replicate (7 - z) 0) (sym e))
    ∙ numbers_first 7 bytes (replicate (7 - z) 0)
    ∙ ap₂ (λ (l r : List ℕ). l ++ r) (bytes_small bytes b) (no_number 7 (replicate (7 - z) 0) (omega (arith, length-replicate {A = ℕ} (7 - z) 0)))
    ∙ append-nil bytes

-- what a text's bytes hold
pub decode_is : (apdu : List ℕ) → 4 ≤ length apdu → is_generic_text (get_or apdu 0 0) (get_or apdu 1 0) (get_or apdu 2 0) ≡ true
    → decode apdu ≡ with_header (get_or apdu 2 0) (get_or apdu 3 0) (text_of_codes (numbers_in 6 (bits_in 8 (drop 4 apdu))))
unfolding decode
decode_is apdu h e = simp (le-ltb (length apdu) 4 h, e)

-- and where they are taken for a text
record Accepted (apdu : List ℕ) (t : Text) : Type 0 where
  whole : 4 ≤ length apdu
  header : is_generic_text (get_or apdu 0 0) (get_or apdu 1 0) (get_or apdu 2 0) ≡ true
  is : with_header (get_or apdu 2 0) (get_or apdu 3 0) (text_of_codes (numbers_in 6 (bits_in 8 (drop 4 apdu)))) ≡ decoded t

accepted : (apdu : List ℕ) (t : Text) → decode apdu ≡ decoded t → Accepted apdu t
unfolding decode
accepted apdu t = go (ltb (length apdu) 4) refl (is_generic_text (get_or apdu 0 0) (get_or apdu 1 0) (get_or apdu 2 0)) refl
  where
    go : (s : Bool) → ltb (length apdu) 4 ≡ s → (u : Bool) → is_generic_text (get_or apdu 0 0) (get_or apdu 1 0) (get_or apdu 2 0) ≡ u
        → cond s (refused NoHeader) (cond u (with_header (get_or apdu 2 0) (get_or apdu 3 0) (text_of_codes (numbers_in 6 (bits_in 8 (drop 4 apdu))))) (refused NoText)) ≡ decoded t
        → Accepted apdu t
    go true e u f h = absurd (let z : ◌≡◌ {A = ℕ} 0 1 = cc in omega arith)
    go false e true f h = record { whole = ltb-false _ _ e; header = f; is = h }
    go false e false f h = absurd (let z : ◌≡◌ {A = ℕ} 0 1 = cc in omega arith)

pub fits : (h m p : ℕ) → is_fit h m p ≡ true → (h < 32) × (m < 64) × (p < 16)
fits h m p e =
    let a = both (ltb h 32) _ e in
    let b = both (ltb m 64) _ a.1 in
    (ltb-true h 32 a.0, ltb-true m 64 b.0, ltb-true p 16 b.1)

fit : (h m p : ℕ) → h < 32 → m < 64 → p < 16 → is_fit h m p ≡ true
fit h m p a b c = simp (lt-ltb h 32 a, lt-ltb m 64 b, lt-ltb p 16 c)

-- the header that is written, read
module _ (h m p : ℕ) (a : h < 32) (b : m < 64) (c : p < 16) where
  good_header : is_generic_text 6 116 (h * 4 + m / 16) ≡ true
  good_header = eq-eqb (0 + (h * 4 + m / 16) / 128) 0 (omega arith)

  header_back : (cs : List ℕ) → with_header (h * 4 + m / 16) (m % 16 * 16 + p) (some cs) ≡ decoded (text_with h m p cs)
  header_back cs =
      let hours : hours_in (h * 4 + m / 16) ≡ h = omega arith in
      let minutes : minutes_in (h * 4 + m / 16) (m % 16 * 16 + p) ≡ m = omega arith in
      let padding : padding_in (m % 16 * 16 + p) ≡ p = omega arith in
      simp (hours, minutes, padding)

pub decode_encode : (t : Text) → is_fit t.hours t.minutes t.padding ≡ true → are_listed t.characters ≡ true → decode (encode t) ≡ decoded t
unfolding encode header_of
decode_encode t f l =
    let b = fits t.hours t.minutes t.padding f in
    let p = packed_filled t.characters in
    decode_is (encode t) (omega arith) (good_header t.hours t.minutes t.padding b.0 b.1 b.2)
    ∙ ap (with_header _ _)
    (closed_text (closed_bytes t.characters) (map code_of t.characters) p.zeros (are_characters t.characters l) p.is ∙ ap some (characters_back t.characters l))
    ∙ header_back t.hours t.minutes t.padding b.0 b.1 b.2 t.characters

-- the text of accepted bytes
text_in_lem : (c d : ℕ) (o : Option (List ℕ)) (t : Text) → with_header c d o ≡ decoded t → (cs : List ℕ) × (o ≡ some cs) × (t ≡ text_with (hours_in c) (minutes_in c d) (padding_in d) cs)
text_in_lem c d (some cs) t e = (cs, refl, (cc))
text_in_lem c d none t e = absurd (let z : ◌≡◌ {A = ℕ} 0 1 = cc in omega arith)

-- they fit, and the list has them all
writable : (apdu : List ℕ) (t : Text) → AreBytes apdu → decode apdu ≡ decoded t
    → (is_fit t.hours t.minutes t.padding ≡ true) × (are_listed t.characters ≡ true)
writable apdu t b e =
    let a = accepted apdu t e in
    let c = get_or apdu 2 0 in
    let d = get_or apdu 3 0 in
    let codes = numbers_in 6 (bits_in 8 (drop 4 apdu)) in
    let x = text_in_lem c d (text_of_codes codes) t a.is in
    let small : d < 256 = byte_at apdu 3 b in (
      ap (λ (t : Text). is_fit t.hours t.minutes t.padding) x.2 ∙ fit (hours_in c) (minutes_in c d) (padding_in d) (omega arith) (omega arith) (omega arith),
      ap (λ (t : Text). are_listed t.characters) x.2 ∙ is_listed_lem codes x.0 x.1,
    )

pub read_writable : ReadWritable
unfolding text_writing
read_writable apdu t room b e h = let w = writable apdu t b e in simp (w.0, w.1, le-leb (length (encode t)) room h)

pub at_most_17515 : AtMost17515
at_most_17515 apdu t h e =
    let row = bits_in 8 (drop 4 apdu) in
    let codes = numbers_in 6 row in
    let x = text_in_lem _ _ (text_of_codes codes) t (accepted apdu t e).is in
    omega (
      arith,
      ap (λ (t : Text). length t.characters) x.2,
      text_size codes x.0 x.1 (numbers_small 5 row (bits_in_lem 8 (drop 4 apdu))),
      numbers_fit 5 row (bits_in_lem 8 (drop 4 apdu)),
      length-bits_in 8 (drop 4 apdu),
      length-drop 4 apdu,
    )

rewritten_closed : (apdu : List ℕ) → AreBytes apdu → Rewritten apdu → Closed apdu
unfolding encode header_of
rewritten_closed apdu b r =
    let t = r.text in
    let a = accepted apdu t r.read in
    let p = packed_filled t.characters in
    record {
      whole = a.whole;
      header = a.header;
      codes = map code_of t.characters;
      plain = are_characters t.characters (writable apdu t b r.read).1;
      zeros = p.zeros;
      short = omega (arith, p.short);
      bits = ap (λ (l : List ℕ). bits_in 8 (drop 4 l)) (sym r.same) ∙ p.is;
    }

-- a text's header is fixed by what it carries
module _ (a b c d : ℕ) (ha : a < 256) (hb : b < 256) (hc : c < 256) (hd : d < 256) where
  header_same : is_generic_text a b c ≡ true → header_of (hours_in c) (minutes_in c d) (padding_in d) ≡ a ∷ b ∷ c ∷ d ∷ []
  unfolding header_of
  header_same e =
      let p = both (eqb (a / 32) 0) _ e in
      let q = both (eqb (a % 32 * 64 + b / 4) 413) _ p.1 in
      let r = both (eqb (b / 2 % 2) 0) _ q.1 in
      let flags : a / 32 ≡ 0 = eqb-true _ _ p.0 in
      let product : a % 32 * 64 + b / 4 ≡ 413 = eqb-true _ _ q.0 in
      let segment : b / 2 % 2 ≡ 0 = eqb-true _ _ r.0 in
      let option : b % 2 * 2 + c / 128 ≡ 0 = eqb-true _ _ r.1 in
      let first : 6 ≡ a = omega arith in
      let second : 116 ≡ b = omega arith in
      let third : hours_in c * 4 + minutes_in c d / 16 ≡ c = omega arith in
      let fourth : minutes_in c d % 16 * 16 + padding_in d ≡ d = omega arith in
      cc

closed_rewritten : (apdu : List ℕ) → AreBytes apdu → Closed apdu → Rewritten apdu
unfolding AreBytes encode
closed_rewritten [] b r = absurd (omega (arith, r.whole))
closed_rewritten (_ ∷ []) b r = absurd (omega (arith, r.whole))
closed_rewritten (_ ∷ _ ∷ []) b r = absurd (omega (arith, r.whole))
closed_rewritten (_ ∷ _ ∷ _ ∷ []) b r = absurd (omega (arith, r.whole))
closed_rewritten (x ∷ y ∷ c ∷ d ∷ bytes) b r = record {
  text = text_with (hours_in c) (minutes_in c d) (padding_in d) (map character_of r.codes);
  read = decode_is (x ∷ y ∷ c ∷ d ∷ bytes) r.whole r.header ∙ ap (with_header c d) (closed_text bytes r.codes r.zeros r.plain r.bits);
  same =
      ap₂ (λ (k l : List ℕ). k ++ l) (header_same x y c d b.0 b.1.0 b.1.1.0 b.1.1.1.0 r.header)
      (closed_packed bytes r.codes r.zeros b.1.1.1.1 r.plain r.short r.bits);
}

pub same_exactly_if_closed : SameExactlyIfClosed
same_exactly_if_closed apdu b = (rewritten_closed apdu b, closed_rewritten apdu b)
