-- What is proved of texts, over two calls.
-- Assumes nothing.
use mathlib.Core.Path.{◌≡◌, refl, sym, ap, ap₂, ◌∙◌}
use mathlib.Core.Bool.{Bool, true, false, cond}
use Prim.Native.Nat.{ℕ}
use mathlib.Core.List.{List}
use native.Mathlib.Omega.{arith}
use lib.Dec.{leb}
use lib.ListN.{length, take, drop}
use lib.Seq.{take-append_seam}
use borrow.Author.Tests.{le-leb}
use Rattle.numbers.specs.Lent.{written}
use Rattle.std.specs.Prelude.{Result, Ok, Err}
use Rattle.refusals.specs.declared.Refusal.{Refusal}
use Rattle.refusals.specs.declared.Refusal.TheVariants.{BadField, NoRoom, NoCharacter}
use Rattle.characters.specs.Characters.{are_listed}
use Rattle.generic_text.specs.declared.Text as read
use Rattle.generic_text.specs.Product.{Text, text_with, Decoded, decoded, refused, decode, is_fit, encode}
use Rattle.generic_text.specs.Answers.{text_of, text_reading, read_output, ReadText, text_writing, WroteText}
use Rattle.generic_text.specs.Claims.{WrittenRead, ReadWritten}
use Rattle.generic_text.proofs.Rewriting.{decode_encode, same_exactly_if_closed}

-- the first places hold what was written
first : (bytes out : List ℕ) → take (length bytes) (written bytes out) ≡ bytes
unfolding written
first bytes out = take-append_seam bytes (drop (length bytes) out)

accepted : (t : Text) (room n : ℕ) → Ok n ≡ text_writing t room
    → (is_fit t.hours t.minutes t.padding ≡ true) × (are_listed t.characters ≡ true) × (n ≡ length (encode t))
unfolding text_writing
accepted t room n = go (is_fit t.hours t.minutes t.padding) (are_listed t.characters) (leb (length (encode t)) room)
  where
    go : (f l r : Bool) → Ok n ≡ cond f (cond l (cond r (Ok (length (encode t))) (Err NoRoom)) (Err NoCharacter)) (Err BadField)
        → (f ≡ true) × (l ≡ true) × (n ≡ length (encode t))
    go true true true e = (refl, refl, (cc))
    go true true false e = absurd (let z : ◌≡◌ {A = ℕ} 0 1 = cc in omega arith)
    go true false r e = absurd (let z : ◌≡◌ {A = ℕ} 0 1 = cc in omega arith)
    go false l r e = absurd (let z : ◌≡◌ {A = ℕ} 0 1 = cc in omega arith)

-- the bytes that a call wrote hold the text
pub written_decoded : (t : Text) (out left : List ℕ) (n : ℕ) → WroteText t out (Ok n) left → decode (take n left) ≡ decoded t
written_decoded t out left n w =
    let a = accepted t (length out) n w.answers in
    ap decode (ap₂ take a.2 w.leaves ∙ first (encode t) out) ∙ decode_encode t a.0 a.1

pub written_read : WrittenRead
unfolding text_reading
written_read t out left room after n answer w r h =
    let d = written_decoded t out left n w in
    let says : answer ≡ Ok (text_of t.hours t.minutes t.padding (length t.characters)) =
    r.answers ∙ ap (λ (x : Decoded). text_reading x (length room)) d ∙ simp (le-leb (length t.characters) (length room) h) in
    (says, r.leaves ∙ ap₂ (λ (a : Result read.Text Refusal) (x : Decoded). written (read_output a x) room) says d)

-- what a call read
answered : (d : Decoded) (lent after : List ℕ) (h m p n : ℕ) → ReadText d lent (Ok (text_of h m p n)) after
    → (t : Text) × (d ≡ decoded t) × (text_with h m p (take n after) ≡ t)
unfolding text_reading
answered (refused k) lent after h m p n r = let e = r.answers in absurd (let z : ◌≡◌ {A = ℕ} 0 1 = cc in omega arith)
answered (decoded t) lent after h m p n r = go (leb (length t.characters) (length lent)) r.answers
  where
    go : (b : Bool)
        → Ok (text_of h m p n) ≡ cond b (Ok (text_of t.hours t.minutes t.padding (length t.characters))) (Err NoRoom)
        → (u : Text) × (decoded t ≡ decoded u) × (text_with h m p (take n after) ≡ u)
    go true e =
        let same : text_of h m p n ≡ text_of t.hours t.minutes t.padding (length t.characters) = cc e in
        let size : n ≡ length t.characters = ap (λ (x : read.Text). x.length) same in
        let held : take n after ≡ t.characters = ap₂ take size r.leaves ∙ first t.characters lent in
        let hours : h ≡ t.hours = ap (λ (x : read.Text). x.hours) same in
        let minutes : m ≡ t.minutes = ap (λ (x : read.Text). x.minutes) same in
        let padding : p ≡ t.padding = ap (λ (x : read.Text). x.padding) same in
        (t, refl, rw (held, hours, minutes, padding))
    go false e = absurd (let z : ◌≡◌ {A = ℕ} 0 1 = cc in omega arith)

pub read_written : ReadWritten
read_written apdu lent after out left h m p n k b r w =
    let x = answered (decode apdu) lent after h m p n r in
    let a = accepted (text_with h m p (take n after)) (length out) k w.answers in
    let bytes : take k left ≡ encode x.0 = ap₂ take a.2 w.leaves ∙ first (encode (text_with h m p (take n after))) out ∙ ap encode x.2 in
    let both = same_exactly_if_closed apdu b in (
      λ e. both.0 (record { text = x.0; read = x.1; same = sym bytes ∙ e }),
      λ c.
          let y = both.1 c in
          let one : x.0 ≡ y.text = cc (x.1, y.read) in
          bytes ∙ ap encode one ∙ y.same,
    )
