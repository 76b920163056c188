-- The bytes of a text's codes, four codes at a time, and the last.
-- Assumes nothing.
use mathlib.Core.Path.{◌≡◌, refl, sym, ap, ap₂, ◌∙◌}
use Prim.Native.Nat.{ℕ, suc, ◌+◌, ◌-◌, ◌*◌, ◌/◌, ◌%◌, ◌≤◌, ◌<◌}
use mathlib.Core.Bool.{true}
use mathlib.Core.List.{List, [], ◌∷◌, ◌++◌, append_assoc, map}
use native.Mathlib.Omega.{arith}
use lib.ListN.{length, get_or, take, drop, replicate, length-append, length-map, length-replicate}
use lib.Seq.{take_all}
use Rattle.numbers.specs.Bits.{bit}
use Rattle.numbers.specs.Lent.{Stored}
use Rattle.numbers.specs.Packing.{bits_of, bits_in, gather, numbers_in}
use Rattle.numbers.proofs.Packing.{next_number, length-bits_in, bits_in-append, bits_more, groups_first}
use Rattle.numbers.proofs.Storing.{then}
use Rattle.characters.specs.Characters.{code_of, are_listed}
use Rattle.characters.proofs.Listed.{listed_both}
use Rattle.characters.proofs.Inverse.{code_lt}
use Rattle.generic_text.specs.Product.{header_of, code_bytes, closed_bytes, encode}
use Rattle.generic_text.specs.Putting.{three_of}
use Rattle.generic_text.specs.Claims.{Size}
use Rattle.generic_text.proofs.Rewriting.{packed_filled}

-- four codes fill three bytes
four_bits : (a b c d : ℕ) (rest : List ℕ) → a < 64 → b < 64 → c < 64 → d < 64
    → numbers_in 8 (bits_in 6 (a ∷ b ∷ c ∷ d ∷ []) ++ rest) ≡ three_of a b c d ++ numbers_in 8 rest
unfolding bits_of
four_bits a b c d rest ha hb hc hd =
    let n = ((a * 64 + b) * 64 + c) * 64 + d in
    let none : 0 * 64 + a ≡ a = omega arith in
    let last : n / 1 ≡ n = omega arith in
    ap (numbers_in 8)
    (bits_more 6 0 0 (a ∷ b ∷ c ∷ d ∷ []) rest (ha, (hb, (hc, (hd, tt)))) ∙ ap (λ (k : ℕ). bits_of 24 (((k * 64 + b) * 64 + c) * 64 + d) ++ rest) none)
    ∙ groups_first 7 3 n rest
    ∙ ap (λ (k : ℕ). n / 65536 % 256 ∷ n / 256 % 256 ∷ k % 256 ∷ numbers_in 8 rest) last

four_filled : (a b c d : ℕ) (codes : List ℕ) → a < 64 → b < 64 → c < 64 → d < 64 → code_bytes (a ∷ b ∷ c ∷ d ∷ codes) ≡ three_of a b c d ++ code_bytes codes
unfolding code_bytes
four_filled a b c d codes ha hb hc hd =
    let four : List ℕ = a ∷ b ∷ c ∷ d ∷ [] in
    ap (numbers_in 8) (ap (λ (l : List ℕ). l ++ replicate 7 0) (bits_in-append 6 four codes) ∙ append_assoc (bits_in 6 four) (bits_in 6 codes) (replicate 7 0))
    ∙ four_bits a b c d (bits_in 6 codes ++ replicate 7 0) ha hb hc hd

pub small : (r k : ℕ) → r ≡ code_of k → r < 64
small r k e = omega (arith, code_lt k)

-- the last codes, the closing one and zero bits up to the byte's end
pub last_none : closed_bytes [] ≡ 0 ∷ []
unfolding code_bytes bits_in bits_of bit numbers_in gather
last_none = refl

module _ (x a : ℕ) (ea : a ≡ code_of x) where
  pub last_one : closed_bytes (x ∷ []) ≡ a * 4 ∷ 0 ∷ []
  unfolding code_bytes bits_in bits_of bit numbers_in gather
  last_one =
      let k = small a _ ea in
      let byte : (a * 64 + 0) / 16 % 256 ≡ a * 4 = omega arith in
      ap (λ (n : ℕ). code_bytes (n ∷ 0 ∷ [])) (sym ea)
      ∙ next_number 7 6 4 6 a 0 (replicate 7 0) refl (omega arith) (omega arith)
      ∙ ap (λ (n : ℕ). n ∷ 0 ∷ []) byte

  module _ (y b : ℕ) (eb : b ≡ code_of y) where
    pub last_two : closed_bytes (x ∷ y ∷ []) ≡ three_of a b 0 0
    unfolding code_bytes bits_in bits_of bit numbers_in gather
    last_two =
        ap₂ (λ (m n : ℕ). code_bytes (m ∷ n ∷ 0 ∷ [])) (sym ea) (sym eb)
        ∙ four_bits a b 0 0 (0 ∷ []) (small a _ ea) (small b _ eb) (omega arith) (omega arith)

    module _ (z c : ℕ) (ec : c ≡ code_of z) where
      pub last_three : closed_bytes (x ∷ y ∷ z ∷ []) ≡ three_of a b c 0
      unfolding code_bytes bits_in bits_of bit numbers_in gather
      last_three =
          ap₂ (λ (m n : ℕ). code_bytes (m ∷ n ∷ code_of z ∷ 0 ∷ [])) (sym ea) (sym eb)
          ∙ ap (λ (n : ℕ). code_bytes (a ∷ b ∷ n ∷ 0 ∷ [])) (sym ec)
          ∙ four_bits a b c 0 (replicate 7 0) (small a _ ea) (small b _ eb) (small c _ ec) (omega arith)

      -- four codes more
      pub next_four : (w d : ℕ) (rest : List ℕ) → d ≡ code_of w → closed_bytes (x ∷ y ∷ z ∷ w ∷ rest) ≡ three_of a b c d ++ closed_bytes rest
      next_four w d rest ed =
          ap₂ (λ (m n : ℕ). code_bytes (m ∷ n ∷ code_of z ∷ code_of w ∷ map code_of rest ++ (0 ∷ []))) (sym ea) (sym eb)
          ∙ ap₂ (λ (m n : ℕ). code_bytes (a ∷ b ∷ m ∷ n ∷ map code_of rest ++ (0 ∷ []))) (sym ec) (sym ed)
          ∙ four_filled a b c d (map code_of rest ++ (0 ∷ [])) (small a _ ea) (small b _ eb) (small c _ ec) (small d _ ed)

-- of so many characters
pub of_none : (l : List ℕ) → length l ≡ 0 → closed_bytes l ≡ 0 ∷ []
of_none [] h = last_none
of_none (x ∷ l) h = absurd (omega arith)

pub of_one : (l : List ℕ) → length l ≡ 1 → (a : ℕ) → a ≡ code_of (get_or l 0 0) → closed_bytes l ≡ a * 4 ∷ 0 ∷ []
of_one [] h a ea = absurd (omega arith)
of_one (x ∷ []) h a ea = last_one x a ea
of_one (x ∷ y ∷ l) h a ea = absurd (omega arith)

pub of_two : (l : List ℕ) → length l ≡ 2 → (a b : ℕ) → a ≡ code_of (get_or l 0 0) → b ≡ code_of (get_or l 1 0) → closed_bytes l ≡ three_of a b 0 0
of_two [] h a b ea eb = absurd (omega arith)
of_two (x ∷ []) h a b ea eb = absurd (omega arith)
of_two (x ∷ y ∷ []) h a b ea eb = last_two x a ea y b eb
of_two (x ∷ y ∷ z ∷ l) h a b ea eb = absurd (omega arith)

pub of_three : (l : List ℕ) → length l ≡ 3 → (a b c : ℕ) → a ≡ code_of (get_or l 0 0) → b ≡ code_of (get_or l 1 0) → c ≡ code_of (get_or l 2 0) → closed_bytes l ≡ three_of a b c 0
of_three [] h a b c ea eb ec = absurd (omega arith)
of_three (x ∷ []) h a b c ea eb ec = absurd (omega arith)
of_three (x ∷ y ∷ []) h a b c ea eb ec = absurd (omega arith)
of_three (x ∷ y ∷ z ∷ []) h a b c ea eb ec = last_three x a ea y b eb z c ec
of_three (x ∷ y ∷ z ∷ w ∷ l) h a b c ea eb ec = absurd (omega arith)

-- some bytes of a text were stored, and those of the characters that are left are next
pub record PutFours (out text left : List ℕ) (at : ℕ) (mid : List ℕ) : Type 0 where
  pub bytes : List ℕ
  pub stored : Stored out 4 bytes at mid
  pub rest : closed_bytes text ≡ bytes ++ closed_bytes left
  pub listed : are_listed left ≡ true

pub fours_start : (out text : List ℕ) → are_listed text ≡ true → PutFours out text text 4 out
fours_start out text h = record { bytes = []; stored = record { ends = refl; leaves = refl }; rest = refl; listed = h }

module _ {out text left : List ℕ} {at : ℕ} {mid : List ℕ} (p : PutFours out text left at mid) where
  pub last_room : (size : ℕ) → 4 + length (closed_bytes text) ≤ size → at + length (closed_bytes left) ≤ size
  last_room size h = omega (arith, p.stored.ends, ap length p.rest, length-append p.bytes (closed_bytes left))

  pub fours_more : (a b c d : ℕ) {next : ℕ} {behind after : List ℕ} → closed_bytes left ≡ three_of a b c d ++ closed_bytes behind → are_listed behind ≡ true
      → Stored mid at (three_of a b c d) next after → PutFours out text behind next after
  fours_more a b c d {behind = behind} e l s = record {
    bytes = p.bytes ++ three_of a b c d;
    stored = then p.stored s;
    rest = p.rest ∙ ap (λ (r : List ℕ). p.bytes ++ r) e ∙ sym (append_assoc p.bytes (three_of a b c d) (closed_bytes behind));
    listed = l;
  }

  pub all_put : {next : ℕ} {after : List ℕ} → Stored mid at (closed_bytes left) next after → Stored out 4 (closed_bytes text) next after
  all_put s = rw p.rest (then p.stored s)

-- four characters, and those behind them
pub four_rest : (text : List ℕ) → 4 ≤ length text → text ≡ get_or text 0 0 ∷ get_or text 1 0 ∷ get_or text 2 0 ∷ get_or text 3 0 ∷ take (length text - 4) (drop 4 text)
four_rest [] h = absurd (omega arith)
four_rest (a ∷ []) h = absurd (omega arith)
four_rest (a ∷ b ∷ []) h = absurd (omega arith)
four_rest (a ∷ b ∷ c ∷ []) h = absurd (omega arith)
four_rest (a ∷ b ∷ c ∷ d ∷ rest) h = let n : length (a ∷ b ∷ c ∷ d ∷ rest) - 4 ≡ length rest = omega arith in rw (n, take_all (length rest) rest (omega arith))

pub of_more : (l : List ℕ) → 4 ≤ length l → (a b c d : ℕ) → a ≡ code_of (get_or l 0 0) → b ≡ code_of (get_or l 1 0) → c ≡ code_of (get_or l 2 0) → d ≡ code_of (get_or l 3 0)
    → closed_bytes l ≡ three_of a b c d ++ closed_bytes (take (length l - 4) (drop 4 l))
of_more l h a b c d ea eb ec ed = ap closed_bytes (four_rest l h) ∙ next_four _ a ea _ b eb _ c ec _ d _ ed

-- and they are listed
pub behind_listed : (text : List ℕ) → 4 ≤ length text → are_listed text ≡ true → are_listed (take (length text - 4) (drop 4 text)) ≡ true
behind_listed text h l =
    let p = listed_both _ _ (rw (four_rest text h) at l) in
    let q = listed_both _ _ p.1 in
    let r = listed_both _ _ q.1 in
    (listed_both _ _ r.1).1

-- four codes are three bytes
pub packed-length : (cs : List ℕ) → length (closed_bytes cs) ≡ suc (length cs) - suc (length cs) / 4
packed-length cs =
    let p = packed_filled cs in
    let codes = map code_of cs ++ (0 ∷ []) in
    let bits : length (closed_bytes cs) * 8 ≡ length codes * 6 + p.zeros =
    sym (length-bits_in 8 (closed_bytes cs)) ∙ ap length p.is ∙ length-append (bits_in 6 codes) (replicate p.zeros 0)
    ∙ ap₂ (λ (m n : ℕ). m + n) (length-bits_in 6 codes) (length-replicate p.zeros 0) in
    omega (arith, p.short, length-append (map code_of cs) (0 ∷ []), length-map cs code_of)

pub size : Size
unfolding encode header_of
size t = omega (arith, packed-length t.characters)
