-- The round trip of one kind, from what its values and their bytes are; and what a bad value is answered.
-- Assumes nothing.
use mathlib.Core.Path.{◌≡◌, refl, sym, ap, ◌∙◌}
use mathlib.Core.Bool.{Bool, true, false, cond}
use Prim.Native.Nat.{ℕ, ◌≤◌}
use mathlib.Core.List.{List}
use native.Mathlib.Omega.{arith}
use lib.Dec.{leb}
use lib.ListN.{length, get_or, take, drop}
use lib.Seq.{take_at}
use borrow.Author.Tests.{ne_eqb, le-leb}
use Rattle.numbers.specs.Bytes.{AreBytes}
use Rattle.numbers.specs.Lent.{written}
use Rattle.std.specs.Prelude.{Result, Ok, Err}
use Rattle.refusals.specs.declared.Refusal.{Refusal}
use Rattle.refusals.specs.declared.Refusal.TheVariants as refusal
use Rattle.refusals.specs.Numbers.{refusal_number, number_in}
use Rattle.codec.specs.Reading.{fit, reading}
use Rattle.codec.proofs.Outcomes.{accepted, other_id}
use Rattle.codec.specs.Writing.{written_output, writing}
use Rattle.messages.specs.Message.{kind_of, kind_in, kind_number}
use Rattle.gdl90.specs.declared.WriteAnswer.{WriteAnswer}
use Rattle.gdl90.specs.Messages.{kind_answer, write_answer, AnsweredBy, AnsweredWriting}
use Rattle.c_laws.specs.Claims.{RoundTrip, Refused8}

module _ {b out left : List ℕ} {a : WriteAnswer} where
  -- what is accepted stands at the front of the output, whole
  whole : AnsweredWriting true b out a left → a.number ≡ 0 → take a.length left ≡ b
  unfolding writing written
  whole w z = go (leb (length b) (length out)) w.answers w.leaves
    where
      go : (t : Bool) → a ≡ write_answer (cond t (Ok (length b)) (Err refusal.NoRoom)) → left ≡ written (written_output (cond t (Ok (length b)) (Err refusal.NoRoom)) b) out
          → take a.length left ≡ b
      go true e l = rw (e, l) (take_at b (drop (length b) out) (length b) refl)
      go false e l = absurd (omega (arith, ap (λ (x : WriteAnswer). x.number) e))

  -- and what has room is accepted
  roomy : AnsweredWriting true b out a left → length b ≤ length out → (a ≡ record { number = 0; length = length b }) × (left ≡ written b out)
  unfolding writing
  roomy w h = let e = le-leb (length b) (length out) h in (simp e at w.answers, simp e at w.leaves)

-- a bad value is refused with 8
pub bad : {good : Bool} {b : List ℕ} → good ≡ false → Refused8 (AnsweredWriting good b)
unfolding writing written
bad g out left a w = (simp g at w.answers, simp g at w.leaves)

-- what has a kind's id for its first byte is named so
pub named_by : (id : ℕ) → kind_number (kind_of id) ≡ 0 → (m : List ℕ) → (length m ≡ 0 → ⊥) → get_or m 0 0 ≡ id → kind_answer m ≡ record { number = 0; id = id }
unfolding kind_in
named_by id known m some first = simp (ne_eqb (length m) 0 some, first, known)

module _ {id : ℕ} {X : Type 0} {Typed : X → Type 0} {number : List ℕ → ℕ} {value : List ℕ → X} {zeroed : X → X} (way : X → ℕ → Result ℕ Refusal) (good : X → Bool) (bytes : X → List ℕ)
    -- writing a good value is the same for every kind, and no other is accepted
    (accepts : (x : X) (room : ℕ) → good x ≡ true → way x room ≡ writing true (bytes x) room)
    (refuses : (x : X) (room : ℕ) → good x ≡ false → number_in (way x room) ≡ 0 → ⊥)
    -- the bytes of a good value are read as it is, and what is read is a good value's bytes
    (back : (x : X) → Typed x → good x ≡ true → (number (bytes x) ≡ 0) × (value (bytes x) ≡ zeroed x))
    (again : (m : List ℕ) → AreBytes m → number m ≡ 0 → (good (value m) ≡ true) × (bytes (value m) ≡ m))
    (named : (m : List ℕ) → number m ≡ 0 → kind_answer m ≡ record { number = 0; id = id })
    (others : (m : List ℕ) → (get_or m 0 0 ≡ id → ⊥) → number m ≡ 6) where
  as_usual : {x : X} {out left : List ℕ} {a : WriteAnswer} → good x ≡ true → AnsweredBy (way x (length out)) (bytes x) out a left → AnsweredWriting true (bytes x) out a left
  as_usual {x} {out} g w = rw (accepts x (length out) g) at w

  pub trip : RoundTrip id X Typed (λ x out. AnsweredBy (way x (length out)) (bytes x) out) number value zeroed
  trip = record {
    named = named;
    others = others;
    written_read = λ x out left a t w z. decided x out left a t w z (good x) refl;
    read_written = λ m out left a b z room w. let g = again m b z in let r = roomy (as_usual g.0 w) (rw g.1 room) in (rw g.1 at r);
  }
    where
      decided : (x : X) (out left : List ℕ) (a : WriteAnswer) → Typed x → AnsweredBy (way x (length out)) (bytes x) out a left → a.number ≡ 0 → (t : Bool) → good x ≡ t
          → (number (take a.length left) ≡ 0) × (value (take a.length left) ≡ zeroed x)
      decided x out left a t w z true g = rw (whole (as_usual g w) z) (back x t g)
      decided x out left a t w z false g = absurd (refuses x (length out) g (sym (ap (λ (y : WriteAnswer). y.number) w.answers) ∙ z))

-- for a kind that is written as most are
pub usual_trip : {id : ℕ} {X : Type 0} {Typed : X → Type 0} {number : List ℕ → ℕ} {value : List ℕ → X} {zeroed : X → X} (good : X → Bool) (bytes : X → List ℕ)
    → ((x : X) → Typed x → good x ≡ true → (number (bytes x) ≡ 0) × (value (bytes x) ≡ zeroed x))
    → ((m : List ℕ) → AreBytes m → number m ≡ 0 → (good (value m) ≡ true) × (bytes (value m) ≡ m))
    → ((m : List ℕ) → number m ≡ 0 → kind_answer m ≡ record { number = 0; id = id })
    → ((m : List ℕ) → (get_or m 0 0 ≡ id → ⊥) → number m ≡ 6)
    → RoundTrip id X Typed (λ x. AnsweredWriting (good x) (bytes x)) number value zeroed
unfolding writing
usual_trip good bytes back again named others =
    trip (λ x room. writing (good x) (bytes x) room) good bytes (λ x room g. ap (λ (t : Bool). writing t (bytes x) room) g) (λ x room g z. omega (arith, rw g at z)) back again named others

never_0 : (e : Refusal) → refusal_number e ≡ 0 → ⊥
never_0 refusal.OtherId z = omega arith
never_0 refusal.WrongLength z = omega arith
never_0 refusal.BadField z = omega arith
never_0 refusal.NoRoom z = omega arith
never_0 refusal.NotFramed z = omega arith
never_0 refusal.PastTheEnd z = omega arith
never_0 refusal.NoFrame z = omega arith
never_0 refusal.NoHeader z = omega arith
never_0 refusal.NoText z = omega arith
never_0 refusal.NoCharacter z = omega arith
never_0 refusal.RetiredId z = omega arith

-- one kind's reading, of which C has the number and the value: `held` is the value that bytes hold, `flat` its struct
module _ {X Y : Type 0} (id size : ℕ) (held : List ℕ → Y) (good : Y → Bool) (number : Result Y Refusal → ℕ) (tells : (e : Refusal) → number (Err e) ≡ refusal_number e)
    (zero : (y : Y) → number (Ok y) ≡ 0) (value : Result Y Refusal → X) (flat : Y → X) (flattens : (y : Y) → value (Ok y) ≡ flat y) where
  abbrev answer : List ℕ → Result Y Refusal
  answer = reading id size held good

  -- 0 is the number of what is read
  pub read : (m : List ℕ) → number (answer m) ≡ 0 → ((get_or m 0 0 ≡ id) × (length m ≡ size)) × (good (held m) ≡ true) × (answer m ≡ Ok (held m))
  read m z = go (answer m) refl z
    where
      go : (r : Result Y Refusal) → answer m ≡ r → number r ≡ 0 → ((get_or m 0 0 ≡ id) × (length m ≡ size)) × (good (held m) ≡ true) × (answer m ≡ Ok (held m))
      go (Err e) a z = absurd (never_0 e (sym (tells e) ∙ z))
      go (Ok y) a z = let r = accepted id size held good m a in (r.0, ap good r.2 ∙ r.1, a ∙ ap Ok (sym r.2))

  pub back : {m : List ℕ} (y : Y) {x : X} → fit id size m ≡ Ok m → held m ≡ y → good y ≡ true → flat y ≡ x → (number (answer m) ≡ 0) × (value (answer m) ≡ x)
  unfolding reading
  back y fits h g f = let e = ap good h ∙ g in (simp (fits, e) (zero _), simp (fits, e) (flattens _ ∙ ap flat h ∙ f))

  pub again : (from : X → Y) (bytes : Y → List ℕ) (m : List ℕ) → ((y : Y) → from (flat y) ≡ y) → (length m ≡ size → get_or m 0 0 ≡ id → bytes (held m) ≡ m) → number (answer m) ≡ 0
      → (good (from (value (answer m))) ≡ true) × (bytes (from (value (answer m))) ≡ m)
  again from bytes m there same z =
      let r = read m z in
      let e : from (value (answer m)) ≡ held m = ap from (ap value r.2 ∙ flattens (held m)) ∙ there (held m) in
      (ap good e ∙ r.1, ap bytes e ∙ same r.0.1 r.0.0)

  -- the round trip, from the kind's own laws: `from` is the way back from a struct, which is `fine` where writing accepts it
  pub kind_trip : {Typed : X → Type 0} {zeroed : X → X} (from : X → Y) (bytes : Y → List ℕ) (fine : X → Bool) → ((y : Y) → from (flat y) ≡ y)
      → ((x : X) → fine x ≡ true → (good (from x) ≡ true) × (flat (from x) ≡ zeroed x)) → ((y : Y) → good y ≡ true → fine (flat y) ≡ true)
      → (kind_number (kind_of id) ≡ 0) × (size ≡ 0 → ⊥) → ((y : Y) → fit id size (bytes y) ≡ Ok (bytes y)) → ((x : X) → Typed x → good (from x) ≡ true → held (bytes (from x)) ≡ from x)
      → ((m : List ℕ) → length m ≡ size → AreBytes m → get_or m 0 0 ≡ id → bytes (held m) ≡ m)
      → RoundTrip id X Typed (λ x. AnsweredWriting (fine x) (bytes (from x))) (λ m. number (answer m)) (λ m. value (answer m)) zeroed
  kind_trip from bytes fine there fine-good good-fine known fits written_read read_written =
      usual_trip fine (λ x. bytes (from x))
      (λ x t f. let g = fine-good x f in back (from x) (fits (from x)) (written_read x t g.0) g.0 g.1)
      (λ m b z.
      let r = read m z in
      let e : value (answer m) ≡ flat (held m) = ap value r.2 ∙ flattens (held m) in
      (ap fine e ∙ good-fine (held m) r.1, ap (λ (x : X). bytes (from x)) e ∙ ap bytes (there (held m)) ∙ read_written m r.0.1 b r.0.0))
      (λ m z.
      let r = read m z in
      named_by id known.0 m (λ e. known.1 (sym r.0.1 ∙ e)) r.0.0)
      (λ m h. ap number (other_id id size held good m h) ∙ tells refusal.OtherId)
