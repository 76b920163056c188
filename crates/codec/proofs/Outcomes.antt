-- The ways a write and a reading end, for every kind.
-- Assumes nothing.
use mathlib.Core.Path.{◌≡◌, refl, sym, ap, ◌∙◌, subst, subst₂}
use mathlib.Core.Bool.{Bool, true, false, cond}
use Prim.Native.Nat.{ℕ, ◌+◌, ◌≤◌, ◌<◌}
use mathlib.Core.List.{List, ◌++◌}
use native.Mathlib.Omega.{arith}
use native.Mathlib.Numerals.{add-one}
use lib.Dec.{eqb}
use lib.ListN.{length, drop, get_or, set, drop_of_length-le}
use lib.Seq.{sets, drop-cons}
use borrow.Author.Tests.{eqb-true, ne_eqb, le-leb, lt-leb}
use Rattle.std.proofs.lemmas.List.{append-nil}
use Rattle.std.specs.Prelude.{Result, Ok, Err}
use Rattle.numbers.specs.Lent.{written}
use Rattle.numbers.proofs.Storing.{from_first}
use Rattle.refusals.specs.declared.Refusal.{Refusal}
use Rattle.refusals.specs.declared.Refusal.TheVariants.{OtherId, WrongLength, BadField, NoRoom}
use Rattle.codec.specs.Reading.{fit, held, reading}
use Rattle.codec.specs.Writing.{writing, Wrote}

pub no_room : (bytes out : List ℕ) → length out < length bytes → Wrote true bytes out (Err NoRoom) out
unfolding writing written
no_room bytes out h = record { answers = simp (lt-leb (length bytes) (length out) h); leaves = refl }

-- one byte more stored of those that are left
pub stored : (bytes left : List ℕ) (i : ℕ) → i < length bytes → sets (set left i (get_or bytes i 0)) (i + 1) (drop (i + 1) bytes) ≡ sets left i (drop i bytes)
stored bytes left i h = simp add-one (ap (sets left i) (sym (drop-cons bytes i 0 h)))

pub all_stored : (bytes out left : List ℕ) (i : ℕ) → length bytes ≤ length out → i ≡ length bytes → sets left i (drop i bytes) ≡ sets out 0 bytes → Wrote true bytes out (Ok (length bytes)) left
unfolding writing
all_stored bytes out left i h e s = record {
  answers = simp (le-leb (length bytes) (length out) h);
  leaves = sym (ap (sets left i) (ap (λ (n : ℕ). drop n bytes) e ∙ drop_of_length-le bytes {i = length bytes} (omega arith))) ∙ s ∙ from_first bytes out h;
}

-- bytes that fill the output are what it holds then
pub put_whole : (bytes out : List ℕ) → length bytes ≡ length out → (r : Result ℕ Refusal) (left : List ℕ) → Wrote true bytes out r left → left ≡ bytes
unfolding writing written
put_whole bytes out e r left w =
    let all : left ≡ bytes ++ drop (length bytes) out = w.leaves ∙ rw (w.answers, le-leb (length bytes) (length out) (omega (arith, e))) refl in
    all ∙ rw (drop_of_length-le out {i = length bytes} (omega (arith, e)), append-nil bytes) refl

-- a good value's bytes, put
pub wrote : {good : Bool} {bytes b out left : List ℕ} {r : Result ℕ Refusal} → good ≡ true → b ≡ bytes → Wrote true b out r left → Wrote good bytes out r left
wrote {out = out} {left = left} {r = r} g e w = subst₂ (λ (x : Bool) (l : List ℕ). Wrote x l out r left) (sym g) e w

pub refused : (good : Bool) (bytes out : List ℕ) → good ≡ false → Wrote good bytes out (Err BadField) out
unfolding writing written
refused good bytes out g = record { answers = simp g; leaves = refl }

-- what fits is the message, with the id and the length
pub fits : (id size : ℕ) (m : List ℕ) {x : List ℕ} → fit id size m ≡ Ok x → (get_or m 0 0 ≡ id) × (length m ≡ size) × (m ≡ x)
unfolding fit
fits id size m {x} = go (eqb (length m) 0) (eqb (get_or m 0 0) id) refl (eqb (length m) size) refl
  where
    go : (s t : Bool) → eqb (get_or m 0 0) id ≡ t → (u : Bool) → eqb (length m) size ≡ u
        → cond {A = Result (List ℕ) Refusal} s (Err OtherId) (cond t (cond u (Ok m) (Err WrongLength)) (Err OtherId)) ≡ Ok x
        → (get_or m 0 0 ≡ id) × (length m ≡ size) × (m ≡ x)
    go false true e true f z = (eqb-true _ _ e, eqb-true _ _ f, cc)
    go true t e u f z = absurd cc
    go false false e u f z = absurd cc
    go false true e false f z = absurd cc

module _ {X : Type 0} (id size : ℕ) (value : List ℕ → X) (good : X → Bool) (m : List ℕ) where
  -- a reading is the message, held, or one of three refusals
  pub each_answer : (Q : Result X Refusal → Type 0) → ((x : X) → Q (Ok x)) → Q (Err OtherId) → Q (Err WrongLength) → Q (Err BadField)
      → Q (reading id size value good m)
  unfolding fit reading
  each_answer Q a no_kind no_length no_range = go (eqb (length m) 0) (eqb (get_or m 0 0) id) (eqb (length m) size)
    where
      good_or_not : (v : Bool) → Q (cond v (Ok (value m)) (Err BadField))
      good_or_not true = a (value m)
      good_or_not false = no_range

      go : (s t u : Bool) → Q (held value good (cond s (Err OtherId) (cond t (cond u (Ok m) (Err WrongLength)) (Err OtherId))))
      go true t u = no_kind
      go false false u = no_kind
      go false true false = no_length
      go false true true = good_or_not (good (value m))

  -- what is accepted has the id and the length, and is the good value that the bytes hold
  pub accepted : {x : X} → reading id size value good m ≡ Ok x
      → ((get_or m 0 0 ≡ id) × (length m ≡ size)) × (good x ≡ true) × (value m ≡ x)
  unfolding reading
  accepted {x} = go (fit id size m) refl
    where
      go : (r : Result (List ℕ) Refusal) → fit id size m ≡ r → held value good r ≡ Ok x
          → ((get_or m 0 0 ≡ id) × (length m ≡ size)) × (good x ≡ true) × (value m ≡ x)
      go (Err refusal) e h = absurd cc
      go (Ok y) e h =
          let f = fits id size m e in
          let v = within (good (value y)) refl h in
          ((f.0, f.1), v.0, ap value f.2 ∙ v.1)
        where
          within : (t : Bool) → good (value y) ≡ t → cond {A = Result X Refusal} t (Ok (value y)) (Err BadField) ≡ Ok x → (good x ≡ true) × (value y ≡ x)
          within true g z = let w : value y ≡ x = cc in (subst (λ (v : X). good v ≡ true) w g, w)
          within false g z = absurd cc

  -- where the value that the bytes hold is good, 8 is not given
  pub never_8 : good (value m) ≡ true → reading id size value good m ≡ held value (λ _. true) (fit id size m)
  unfolding reading
  never_8 g = go (fit id size m) refl
    where
      go : (r : Result (List ℕ) Refusal) → fit id size m ≡ r → held value good r ≡ held value (λ _. true) r
      go (Err refusal) e = refl
      go (Ok y) e = simp (← (fits id size m e).2, g)

  -- another id is refused with 6
  pub other_id : (get_or m 0 0 ≡ id → ⊥) → reading id size value good m ≡ Err OtherId
  unfolding reading fit
  other_id h = simp (ne_eqb (get_or m 0 0) id h) (go (eqb (length m) 0))
    where
      go : (s : Bool) → held value good (cond s (Err OtherId) (Err OtherId)) ≡ Err OtherId
      go true = refl
      go false = refl
