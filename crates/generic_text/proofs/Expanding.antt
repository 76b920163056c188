-- Walking over a whole text: its length counted, and its bytes stored.
-- Assumes nothing.
use mathlib.Core.Path.{◌≡◌, refl, sym, ap, ◌∙◌, subst}
use Prim.Native.Nat.{ℕ, ◌+◌, ◌≤◌, min}
use mathlib.Core.List.{List, [], ◌∷◌, ◌++◌, append-nil}
use mathlib.Core.Option.{Option, none, some}
use native.Mathlib.Omega.{arith}
use lib.ListN.{length, get_or, replicate, length-append}
use Rattle.std.specs.Prelude.{Option as Answer, Some, None, Result, Ok, Err}
use Rattle.std.specs.Result.{result_unwrap_or}
use Rattle.numbers.specs.Lent.{written, Stored}
use Rattle.numbers.proofs.Storing.{Rest, rest_more, rest_none, rest_size, from_first}
use Rattle.refusals.specs.declared.Refusal.{Refusal}
use Rattle.refusals.specs.declared.Refusal.TheVariants.{NoCharacter}
use Rattle.generic_text.specs.declared.six_bits.Codes.{Codes}
use Rattle.generic_text.specs.declared.six_bits.Run.{Run}
use Rattle.generic_text.specs.Texts.{before, text_of_codes}
use Rattle.generic_text.proofs.Texts.{before_more}
use Rattle.generic_text.specs.Codes.{codes_left, Passes, NextRun, Fits, or_no_bytes, measured}

-- four elements, one by one
pub four_elements : (l : List ℕ) → length l ≡ 4 → l ≡ get_or l 0 0 ∷ get_or l 1 0 ∷ get_or l 2 0 ∷ get_or l 3 0 ∷ []
four_elements [] h = absurd (omega arith)
four_elements (a ∷ []) h = absurd (omega arith)
four_elements (a ∷ b ∷ []) h = absurd (omega arith)
four_elements (a ∷ b ∷ c ∷ []) h = absurd (omega arith)
four_elements (a ∷ b ∷ c ∷ d ∷ []) h = refl
four_elements (a ∷ b ∷ c ∷ d ∷ e ∷ l) h = absurd (omega arith)

-- bytes before a text, told apart from it
told_apart : (xs rest : List ℕ) (t : Option (List ℕ)) → before xs t ≡ some rest → (t ≡ some (or_no_bytes t)) × (rest ≡ xs ++ or_no_bytes t)
told_apart xs rest (some t) e = (refl, (cc))
told_apart xs rest none e = absurd (let z : ◌≡◌ {A = ℕ} 0 1 = cc in omega arith)

-- a run that was told
pub run_passes : {codes : List ℕ} {r : Result (Answer (Run × Codes)) Refusal} (x : Run × Codes) → NextRun codes r → r ≡ Ok (Some x) → Passes codes (replicate x.0.times x.0.byte) (codes_left x.1)
run_passes {codes} x h e = subst (NextRun codes) e h

pub told : (r : Result (Answer (Run × Codes)) Refusal) {x : Run × Codes} → result_unwrap_or r None ≡ Some x → r ≡ Ok (Some x)
told (Ok y) e = ap Ok e
told (Err k) e = absurd cc

-- or none
pub run_ends : (codes : List ℕ) (r : Result (Answer (Run × Codes)) Refusal) → (text_of_codes codes ≡ none → ⊥) → NextRun codes r → result_unwrap_or r None ≡ None → text_of_codes codes ≡ some []
run_ends codes (Ok (Some x)) f h e = absurd cc
run_ends codes (Ok None) f h e = h
run_ends codes (Err k) f h e = absurd (f h.0)

module _ (codes : List ℕ) where
  -- n bytes were counted, no further than one more than the room, before the codes that are left
  pub record Counted (room : ℕ) (left : List ℕ) (n : ℕ) : Type 0 where
    pub passed : List ℕ
    pub is : text_of_codes codes ≡ before passed (text_of_codes left)
    pub counts : n ≡ min (length passed) (room + 1)

  module _ {room n : ℕ} {left : List ℕ} (c : Counted room left n) where
    pub count_more : (xs : List ℕ) (k m : ℕ) {behind : List ℕ} → length xs ≡ k → Passes left xs behind → m ≡ min (n + k) (room + 1) → Counted room behind m
    count_more xs k m {behind} l h e = record {
      passed = c.passed ++ xs;
      is = c.is ∙ ap (before c.passed) h.is ∙ before_more c.passed xs (text_of_codes behind);
      counts = omega (arith, e, c.counts, length-append c.passed xs);
    }

    pub count_end : text_of_codes left ≡ some [] → Ok n ≡ measured (text_of_codes codes) room
    count_end e =
        let t : text_of_codes codes ≡ some (c.passed ++ []) = c.is ∙ ap (before c.passed) e in
        rw (t, append-nil, c.counts)

    pub count_fault : text_of_codes left ≡ none → Err NoCharacter ≡ measured (text_of_codes codes) room
    count_fault e = rw (c.is, e)

  -- the text's bytes were stored before `at`, up to the codes that are left
  pub record Expanded (out after left : List ℕ) (at : ℕ) : Type 0 where
    pub rest : List ℕ
    pub is : text_of_codes left ≡ some rest
    pub stores : Rest out 0 (or_no_bytes (text_of_codes codes)) after at rest

  -- a text that fits is one
  is_text : (t : Option (List ℕ)) (room : ℕ) → Fits t room → (t ≡ some (or_no_bytes t)) × (length (or_no_bytes t) ≤ room)
  is_text (some t) room h = (refl, h)
  is_text none room h = absurd h

  pub expand_start : (out : List ℕ) → Fits (text_of_codes codes) (length out) → Expanded out out codes 0
  expand_start out f = record { rest = or_no_bytes (text_of_codes codes); is = (is_text (text_of_codes codes) (length out) f).0; stores = λ last left s. s }

  module _ {out after left : List ℕ} {at : ℕ} (x : Expanded out after left at) where
    module _ (xs : List ℕ) {behind : List ℕ} (h : Passes left xs behind) where
      tail : (text_of_codes behind ≡ some (or_no_bytes (text_of_codes behind))) × (x.rest ≡ xs ++ or_no_bytes (text_of_codes behind))
      tail = told_apart xs x.rest (text_of_codes behind) (sym h.is ∙ x.is)

      pub expand_room : Fits (text_of_codes codes) (length out) → at + length xs ≤ length out
      expand_room f = omega (arith, rest_size x.stores, ap length tail.1, length-append xs (or_no_bytes (text_of_codes behind)), (is_text (text_of_codes codes) (length out) f).1)

      pub expand_more : {next : ℕ} {now : List ℕ} → Stored after at xs next now → Expanded out now behind next
      expand_more stored = record { rest = _; is = tail.0; stores = rest_more stored (rw tail.1 at x.stores) }

    pub expand_end : Fits (text_of_codes codes) (length out) → text_of_codes left ≡ some [] → after ≡ written (or_no_bytes (text_of_codes codes)) out
    expand_end f h =
        let none_left : x.rest ≡ [] = cc (x.is, h) in
        (rest_none (rw none_left at x.stores)).leaves ∙ from_first (or_no_bytes (text_of_codes codes)) out (is_text (text_of_codes codes) (length out) f).1

    pub no_fault : text_of_codes left ≡ none → ⊥
    no_fault h = let z : ◌≡◌ {A = ℕ} 0 1 = cc (x.is, h) in absurd (omega arith)
