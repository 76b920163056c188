-- Texts made of code characters.
-- Assumes nothing.
use mathlib.Core.Path.{◌≡◌, refl, sym, ap, ap₂, ◌∙◌, subst}
use mathlib.Core.Bool.{Bool, true, false, cond}
use Prim.Native.Nat.{ℕ, zero, suc, ◌+◌, ◌*◌, ◌/◌, ◌%◌, ◌≤◌, ◌<◌}
use mathlib.Core.List.{List, [], ◌∷◌, ◌++◌, append_assoc, append-nil, map}
use mathlib.Core.Option.{Option, none, some}
use native.Mathlib.Omega.{arith}
use lib.Dec.{eqb}
use lib.ListN.{length, replicate, length-append, length-replicate}
use Rattle.numbers.proofs.Every.{chosen}
use borrow.Author.Tests.{eqb-false, ne_eqb, eq-eqb, lt-ltb}
use Rattle.characters.specs.Characters.{character_of, place_in, code_of, are_listed}
use Rattle.characters.proofs.Inverse.{code_small, code_back, character_back, positive}
use Rattle.characters.proofs.Listed.{listed_both, listed-append}
use Rattle.generic_text.specs.Texts.{before, before_character, text_of_codes, AreCharacters}

characters_nonzero : (code : ℕ) → 0 < character_of code → (eqb code 0 ≡ false) × (eqb code 28 ≡ false) × (eqb (character_of code) 0 ≡ false)
unfolding character_of
characters_nonzero code h = (
  ne_eqb code 0 (λ e. absurd (omega (arith, ap character_of e))),
  ne_eqb code 28 (λ e. absurd (omega (arith, ap character_of e))),
  ne_eqb (character_of code) 0 (λ e. omega arith),
)

pub text_end : (cs : List ℕ) → text_of_codes (0 ∷ cs) ≡ some []
unfolding text_of_codes
text_end [] = refl
text_end (n ∷ cs) = refl

pub text_character : (code : ℕ) (cs : List ℕ) → 0 < character_of code → text_of_codes (code ∷ cs) ≡ before (character_of code ∷ []) (text_of_codes cs)
unfolding text_of_codes
text_character code [] h = let n = characters_nonzero code h in simp (n.0, n.2)
text_character code (n ∷ cs) h = let n = characters_nonzero code h in simp (n.0, n.1, n.2)

pub text_none : (code : ℕ) (cs : List ℕ) → (code ≡ 0 → ⊥) → (code ≡ 28 → ⊥) → character_of code ≡ 0 → text_of_codes (code ∷ cs) ≡ none
unfolding text_of_codes
text_none code [] h k e = simp (ne_eqb code 0 h, eq-eqb (character_of code) 0 e)
text_none code (n ∷ cs) h k e = simp (ne_eqb code 0 h, ne_eqb code 28 k, eq-eqb (character_of code) 0 e)

pub before_more : (xs ys : List ℕ) (t : Option (List ℕ)) → before xs (before ys t) ≡ before (xs ++ ys) t
before_more xs ys (some t) = ap some (sym (append_assoc xs ys t))
before_more xs ys none = refl

pub before_none : (t : Option (List ℕ)) → t ≡ before [] t
before_none (some t) = refl
before_none none = refl

-- characters before a text
pub text_characters : (codes rest : List ℕ) → AreCharacters codes → text_of_codes (codes ++ rest) ≡ before (map character_of codes) (text_of_codes rest)
text_characters [] rest h = before_none (text_of_codes rest)
text_characters (code ∷ codes) rest h =
    text_character code (codes ++ rest) h.0
    ∙ ap (before (character_of code ∷ [])) (text_characters codes rest h.1)
    ∙ before_more (character_of code ∷ []) (map character_of codes) (text_of_codes rest)

-- and up to the closing code
pub text_closed : (codes rest : List ℕ) → AreCharacters codes → text_of_codes (codes ++ 0 ∷ rest) ≡ some (map character_of codes)
text_closed codes rest h =
    text_characters codes (0 ∷ rest) h ∙ ap (before (map character_of codes)) (text_end rest) ∙ ap some (append-nil (map character_of codes))

-- codes of six bits, the closing one too
pub codes_small : (codes : List ℕ) → AreCharacters codes → map (λ n. n % 64) (codes ++ (0 ∷ [])) ≡ codes ++ (0 ∷ [])
codes_small [] h = refl
codes_small (code ∷ codes) h = let k = code_small code h.0 in ap₂ (λ (n : ℕ) (l : List ℕ). n ∷ l) (omega arith) (codes_small codes h.1)

pub codes_back : (codes : List ℕ) → AreCharacters codes → map code_of (map character_of codes) ≡ codes
codes_back [] h = refl
codes_back (code ∷ codes) h = ap₂ (λ (n : ℕ) (l : List ℕ). n ∷ l) (code_back code h.0) (codes_back codes h.1)

pub characters_back : (bs : List ℕ) → are_listed bs ≡ true → map character_of (map code_of bs) ≡ bs
characters_back [] e = refl
characters_back (b ∷ bs) e =
    let p = listed_both b bs e in ap₂ (λ (n : ℕ) (l : List ℕ). n ∷ l) (character_back b p.0) (characters_back bs p.1)

pub are_characters : (bs : List ℕ) → are_listed bs ≡ true → AreCharacters (map code_of bs)
are_characters [] e = tt
are_characters (b ∷ bs) e =
    let p = listed_both b bs e in
    (omega (arith, character_back b p.0, positive b p.0), are_characters bs p.1)

-- what holds of a text that ends, of one with a character before it, and of one with a tab before it, holds of every text
module _ (P : List ℕ → List ℕ → Type 0) (ended : (cs : List ℕ) → P cs [])
    (character : (c : ℕ) (cs t : List ℕ) → 0 < character_of c → P cs t → P (c ∷ cs) (character_of c ∷ t))
    (tabbed : (n : ℕ) (cs t : List ℕ) → P cs t → P (28 ∷ n ∷ cs) (replicate n 32 ++ t)) where
  abbrev If : List ℕ → Option (List ℕ) → Type 0
  If cs (some t) = P cs t
  If cs none = Unit {0}

  if_character : (c : ℕ) (cs : List ℕ) (t : Option (List ℕ)) → If cs t → If (c ∷ cs) (before_character c t)
  if_character c cs t h = go (eqb (character_of c) 0) refl t h
    where
      go : (s : Bool) → eqb (character_of c) 0 ≡ s → (t : Option (List ℕ)) → If cs t → If (c ∷ cs) (cond s none (before (character_of c ∷ []) t))
      go true e t h = tt
      go false e none h = tt
      go false e (some t) h = let n : character_of c ≡ 0 → ⊥ = eqb-false _ _ e in character c cs t (omega arith) h

  if_tab : (n : ℕ) (cs : List ℕ) (t : Option (List ℕ)) → If cs t → If (28 ∷ n ∷ cs) (before (replicate n 32) t)
  if_tab n cs none h = tt
  if_tab n cs (some t) h = tabbed n cs t h

  if_text : (codes : List ℕ) → If codes (text_of_codes codes)
  unfolding text_of_codes
  if_text [] = ended []
  if_text (c ∷ []) = chosen (If (c ∷ [])) c 0 _ _ (λ e. ended (c ∷ [])) (if_character c [] (some []) (ended []))
  if_text (c ∷ n ∷ cs) =
      chosen (If (c ∷ n ∷ cs)) c 0 _ _ (λ e. ended (c ∷ n ∷ cs))
      (chosen (If (c ∷ n ∷ cs)) c 28 _ _
      (λ e. subst (λ (k : ℕ). If (k ∷ n ∷ cs) (before (replicate n 32) (text_of_codes cs))) (sym e) (if_tab n cs (text_of_codes cs) (if_text cs)))
      (if_character c (n ∷ cs) (text_of_codes (n ∷ cs)) (if_text (n ∷ cs))))

  pub every_text : (codes t : List ℕ) → text_of_codes codes ≡ some t → P codes t
  every_text codes t e = subst (If codes) e (if_text codes)

listed_spaces : (n : ℕ) → are_listed (replicate n 32) ≡ true
unfolding are_listed code_of place_in
listed_spaces zero = refl
listed_spaces (suc n) = listed_spaces n

code_positive : (code : ℕ) → 0 < character_of code → 0 < code
unfolding character_of
code_positive zero h = h
code_positive (suc code) h = omega arith

listed_one : (code : ℕ) → 0 < character_of code → are_listed (character_of code ∷ []) ≡ true
unfolding are_listed
listed_one code h = simp (lt-ltb 0 (code_of (character_of code)) (omega (arith, code_back code h, code_positive code h)))

-- what is read can be written
pub is_listed_lem : (codes t : List ℕ) → text_of_codes codes ≡ some t → are_listed t ≡ true
unfolding are_listed
is_listed_lem =
    every_text (λ cs t. are_listed t ≡ true) (λ cs. refl)
    (λ c cs t h e. listed-append (character_of c ∷ []) t (listed_one c h) e)
    (λ n cs t e. listed-append (replicate n 32) t (listed_spaces n) e)

-- two codes make 63 spaces at most
pub text_size : (codes t : List ℕ) → text_of_codes codes ≡ some t → map (λ n. n % 64) codes ≡ codes → length t ≤ length codes / 2 * 63 + length codes % 2
text_size =
    every_text (λ cs t. map (λ n. n % 64) cs ≡ cs → length t ≤ length cs / 2 * 63 + length cs % 2) (λ cs e. omega arith)
    (λ c cs t h k e. let r = k (cc e) in omega arith)
    (λ n cs t k e.
    let small : n % 64 ≡ n = cc e in
    let r = k (cc e) in
    omega (arith, length-append (replicate n 32) t, length-replicate {A = ℕ} n 32))
