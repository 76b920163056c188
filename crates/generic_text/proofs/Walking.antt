-- One code less to read, or four; and the characters or the tab that they are.
-- Assumes nothing.
use mathlib.Core.Path.{◌≡◌, sym, ap, ap₂, ◌∙◌}
use Prim.Native.Nat.{ℕ, ◌+◌, ◌-◌, ◌*◌, ◌/◌, ◌%◌, ◌^◌, ◌≤◌, ◌<◌}
use mathlib.Core.List.{List, [], ◌∷◌, ◌++◌, append-nil, map}
use mathlib.Core.Option.{none, some}
use native.Mathlib.Omega.{arith}
use lib.ListN.{length, get_or, take, drop, replicate, length-drop}
use lib.Seq.{take_all}
use Rattle.numbers.specs.Packing.{bits_of, bits_in, numbers_in}
use Rattle.numbers.proofs.Bytes.{drop-three}
use Rattle.numbers.proofs.Packing.{groups, number_first, next_number, no_number, length-bits_of, bits_more, bits_in-append, groups_first}
use Rattle.characters.specs.Characters.{character_of}
use Rattle.generic_text.specs.Texts.{before, text_of_codes}
use Rattle.generic_text.specs.Codes.{codes_of, codes_in, Passes}
use Rattle.generic_text.proofs.Texts.{text_end, text_character, text_none, text_characters}

module _ (last width : ℕ) where
  -- the last byte's six bits are a code
  pub six_left : (rest : List ℕ) → width ≡ 6 → codes_of width last rest ≡ last % 64 ∷ codes_of 0 last rest
  unfolding codes_of bits_of
  six_left rest e = ap (λ (w : ℕ). numbers_in 6 (bits_of w last ++ bits_in 8 rest)) e ∙ number_first 5 last (bits_in 8 rest)

  module _ (even : width % 2 ≡ 0) (few : width ≤ 6) (fewer : width ≡ 6 → ⊥) where
    -- a byte more is
    pub byte_more : (x : ℕ) (rest : List ℕ) → x < 256 → codes_of width last (x ∷ rest) ≡ (last * 256 + x) / 2 ^ (width + 2) % 64 ∷ codes_of (width + 2) x rest
    unfolding codes_of bits_in
    byte_more x rest b = next_number 5 8 (width + 2) width last x (bits_in 8 rest) (omega arith) (omega arith) b

    -- too few bits are left
    pub at_end : codes_of width last [] ≡ []
    unfolding codes_of bits_in
    at_end = ap (numbers_in 6) (append-nil _) ∙ no_number 5 (bits_of width last) (omega (arith, length-bits_of width last))

-- three bytes, and those behind them
three_rest : (bytes : List ℕ) → 3 ≤ length bytes → bytes ≡ get_or bytes 0 0 ∷ get_or bytes 1 0 ∷ get_or bytes 2 0 ∷ take (length bytes - 3) (drop 3 bytes)
three_rest bytes h = drop-three bytes 0 h ∙ ap (λ (l : List ℕ). get_or bytes 0 0 ∷ get_or bytes 1 0 ∷ get_or bytes 2 0 ∷ l) (sym (take_all (length bytes - 3) (drop 3 bytes) (omega (arith, length-drop 3 bytes))))

-- they are four codes
four_codes : (last a b c : ℕ) (rest : List ℕ) → a < 256 → b < 256 → c < 256 → codes_of 0 last (a ∷ b ∷ c ∷ rest) ≡ groups 6 4 ((a * 256 + b) * 256 + c) ++ codes_in rest
unfolding codes_of bits_of
four_codes last a b c rest ha hb hc =
    let first : 0 * 256 + a ≡ a = omega arith in
    ap (numbers_in 6)
    (bits_in-append 8 (a ∷ b ∷ c ∷ []) rest
    ∙ bits_more 8 0 0 (a ∷ b ∷ c ∷ []) (bits_in 8 rest) (ha, (hb, (hc, tt)))
    ∙ ap (λ (k : ℕ). bits_of 24 ((k * 256 + b) * 256 + c) ++ bits_in 8 rest) first)
    ∙ groups_first 5 4 ((a * 256 + b) * 256 + c) (bits_in 8 rest)

module _ (bytes : List ℕ) (long : 3 ≤ length bytes) (ha : get_or bytes 0 0 < 256) (hb : get_or bytes 1 0 < 256) (hc : get_or bytes 2 0 < 256) (m : ℕ) (joined : m ≡ (get_or bytes 0 0 * 256 + get_or bytes 1 0) * 256 + get_or bytes 2 0) where
  pub four_more : (last width : ℕ) (left : List ℕ) (w x y z : ℕ) → width ≡ 0 → left ≡ codes_in (take (length bytes - 3) (drop 3 bytes))
      → w ≡ character_of (m / 262144 % 64) → x ≡ character_of (m / 4096 % 64) → y ≡ character_of (m / 64 % 64) → z ≡ character_of (m % 64)
      → (0 < w) × (0 < x) × (0 < y) × (0 < z) → Passes (codes_of width last bytes) (w ∷ x ∷ y ∷ z ∷ []) left
  four_more last width left w x y z empty behind e f g h whole =
      let codes : List ℕ = m / 262144 % 64 ∷ m / 4096 % 64 ∷ m / 64 % 64 ∷ m % 64 ∷ [] in
      let same : w ∷ x ∷ y ∷ z ∷ [] ≡ map character_of codes = rw (e, f, g, h) in
      let is : codes_of width last bytes ≡ codes ++ left =
      ap₂ (λ (n : ℕ) (l : List ℕ). codes_of n last l) empty (three_rest bytes long)
      ∙ four_codes last (get_or bytes 0 0) (get_or bytes 1 0) (get_or bytes 2 0) (take (length bytes - 3) (drop 3 bytes)) ha hb hc
      ∙ ap₂ (λ (n : ℕ) (l : List ℕ). groups 6 4 n ++ l) (sym joined) (sym behind)
      ∙ ap (λ (n : ℕ). m / 262144 % 64 ∷ m / 4096 % 64 ∷ m / 64 % 64 ∷ n % 64 ∷ left) (omega arith) in
      record {
        is = ap text_of_codes is ∙ text_characters codes left (omega (arith, e), (omega (arith, f), (omega (arith, g), (omega (arith, h), tt)))) ∙ ap (λ (l : List ℕ). before l (text_of_codes left)) (sym same);
        fewer = omega (arith, ap length is);
      }

-- codes that start with one
module _ (codes left : List ℕ) (code : ℕ) (e : codes ≡ code ∷ left) where
  pub ended : code ≡ 0 → text_of_codes codes ≡ some []
  ended z = ap text_of_codes (e ∙ ap (λ (k : ℕ). k ∷ left) z) ∙ text_end left

  pub no_character : (code ≡ 0 → ⊥) → (code ≡ 28 → ⊥) → character_of code ≡ 0 → text_of_codes codes ≡ none
  no_character h k z = ap text_of_codes e ∙ text_none code left h k z

  pub character_passes : (c : ℕ) → c ≡ character_of code → (c ≡ 0 → ⊥) → Passes codes (replicate 1 c) left
  character_passes c f h = record {
    is = ap text_of_codes e ∙ text_character code left (omega arith) ∙ ap (λ (b : ℕ). before (b ∷ []) (text_of_codes left)) (sym f);
    fewer = omega (arith, ap length e);
  }

  -- and it is a tab
  module _ (tab : code ≡ 28) where
    pub counted : (n : ℕ) (behind : List ℕ) → left ≡ n ∷ behind → Passes codes (replicate n 32) behind
    unfolding text_of_codes
    counted n behind f =
        let is : codes ≡ 28 ∷ n ∷ behind = e ∙ ap₂ (λ (k : ℕ) (l : List ℕ). k ∷ l) tab f in
        record { is = ap text_of_codes is; fewer = omega (arith, ap length is) }

    pub uncounted : left ≡ [] → text_of_codes codes ≡ none
    unfolding text_of_codes character_of
    uncounted f = ap text_of_codes (e ∙ ap₂ (λ (k : ℕ) (l : List ℕ). k ∷ l) tab f)

pub none_left : (codes : List ℕ) → codes ≡ [] → text_of_codes codes ≡ some []
unfolding text_of_codes
none_left codes e = ap text_of_codes e
