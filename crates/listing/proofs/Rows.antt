-- Lines, field by field.
-- Assumes nothing.
use mathlib.Core.Path.{◌≡◌, refl, sym}
use mathlib.Core.List.{List, [], ◌∷◌, ◌++◌, append_assoc}
use Prim.Native.Nat.{ℕ, ◌+◌, ◌≤◌}
use native.Mathlib.Numerals.{add-one}
use lib.ListN.{length, take, drop, get_or, set}
use lib.Seq.{get_or-take, length-take-le}
use Rattle.numbers.specs.Lent.{written, Stored}
use Rattle.numbers.proofs.Storing.{then, from_first}
use Rattle.collecting.specs.declared.Answer.{Answer}
use Rattle.collecting.specs.declared.Answer.TheVariants.{Accepted, Refused}
use Rattle.collecting.specs.Stream.{reply}
use Rattle.collecting.specs.Claims.{Ranged}
use Rattle.messages.specs.Message.{read_message}
use Rattle.listing.specs.declared.Lister.{Lister}
use Rattle.listing.specs.Line.{decimal, Field, digits, dash, field, line}
use Rattle.listing.specs.Listing.{answer_line, reply_line, last_line}
use Rattle.listing.proofs.Texts.{one}
use Rattle.refusals.specs.Numbers.{number_in}

module _ {out mid left : List ℕ} {at next last : ℕ} where
  pub field_then : (f g : Field) (fs : List Field) → Stored out at (field f ++ (32 ∷ [])) next mid → Stored mid next (line (g ∷ fs)) last left → Stored out at (line (f ∷ g ∷ fs)) last left
  unfolding line
  field_then f g fs p q = rw (append_assoc (field f) (32 ∷ []) (line (g ∷ fs))) at (then p q)

pub last_field : {out left : List ℕ} {at last : ℕ} (f : Field) → Stored out at (field f ++ (10 ∷ [])) last left → Stored out at (line (f ∷ [])) last left
unfolding line
last_field f p = p

pub digits_then : {out left : List ℕ} {at next : ℕ} (n x : ℕ) → Stored out at (decimal n) next left → Stored out at (field (digits n) ++ (x ∷ [])) (next + 1) (set left next x)
unfolding field
digits_then {left = left} {next = next} n x p = then p (one left next x)

pub dash_then : (out : List ℕ) (at x : ℕ) → Stored out at (field dash ++ (x ∷ [])) (at + 2) (set (set out at 45) (at + 1) x)
unfolding field
dash_then out at x = record { ends = refl; leaves = rw add-one }

-- the last line, from its word and its fields
pub ending_stored : {out mid left : List ℕ} {next last : ℕ} (word : List ℕ) (lead trail : ℕ)
    → word ≡ 101 ∷ 110 ∷ 100 ∷ 32 ∷ [] → 4 ≤ length out
    → Stored (word ++ drop 4 out) 4 (field (digits lead) ++ (32 ∷ [])) next mid
    → Stored mid next (field (digits trail) ++ (10 ∷ [])) last left
    → Stored out 0 (last_line lead trail) last left
unfolding last_line written
ending_stored {out} word lead trail e h p q =
    let start : Stored out 0 word 4 (word ++ drop 4 out) = rw e (record { ends = refl; leaves = sym (from_first (101 ∷ 110 ∷ 100 ∷ 32 ∷ []) out h) }) in
    rw e at (then start (field_then (digits lead) (digits trail) [] p (last_field (digits trail) q)))

pub ranged : (a : Answer) (k : ℕ) → a ≡ Accepted k → Ranged a → (1 ≤ k) × (k ≤ 436)
unfolding Ranged
ranged a k e w = rw e at w

pub position_most : (a : Answer) (n at : ℕ) → a ≡ Refused n at → Ranged a → at ≤ 878
unfolding Ranged
position_most a n at e w =
    let r : (1 ≤ n) × (n ≤ 5) × (at ≤ 878) = rw e at w in
    r.2

-- what an accepted message's line says, from the lent message and the number of its bytes
pub accepted_line : (l : Lister) (a : Answer) (m : List ℕ) (k : ℕ) → a ≡ Accepted k → 1 ≤ k → k ≤ length m
    → answer_line l (number_in (read_message (take k m))) (digits (get_or m 0 0)) (digits k) dash ≡ reply_line l (reply a m)
unfolding reply reply_line
accepted_line l a m k e low high = rw (e, get_or-take k m 0 0 low, length-take-le k m high)
