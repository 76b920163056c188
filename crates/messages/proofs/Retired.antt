-- Exactly which messages are retired (RULES 'Retired ids').
-- Assumes nothing.
use mathlib.Core.Path.{◌≡◌, refl, sym, ap, subst}
use mathlib.Core.Bool.{Bool, cond}
use Prim.Native.Nat.{ℕ, suc, ◌≤◌}
use mathlib.Core.List.{List, [], ◌∷◌}
use native.Mathlib.Omega.{arith}
use lib.Dec.{eqb}
use lib.ListN.{length, get_or}
use borrow.Author.Tests.{ne_eqb}
use Rattle.numbers.proofs.Every.{chosen}
use Rattle.codec.specs.Reading.{reading}
use Rattle.codec.proofs.Outcomes.{each_answer}
use Rattle.message_types.specs.declared.Message.{Message}
use Rattle.messages.specs.declared.Kind.{Kind}
use Rattle.messages.specs.declared.Kind.TheVariants as kind
use Rattle.messages.specs.Message.{kind_of, kind_in, kind_number, as_message, read_as, read_message}
use Rattle.messages.specs.Claims.{Retired, basic, long, RetiredIs17}
use Rattle.refusals.specs.Numbers.{number_in}

-- the reader of a kind never answers 17
never : {X : Type 0} (id size : ℕ) (value : List ℕ → X) (good : X → Bool) (wrap : X → Message) (m : List ℕ)
    → number_in (as_message wrap (reading id size value good m)) ≡ 17 → ⊥
never id size value good wrap m =
    each_answer id size value good m (λ r. number_in (as_message wrap r) ≡ 17 → ⊥)
    (λ x z. omega arith) (λ z. omega arith) (λ z. omega arith) (λ z. omega arith)

-- so 17 is answered for the retired kind alone
by_kind : (k : Kind) (m : List ℕ) → number_in (read_as k m) ≡ 17 → kind_number k ≡ 17
by_kind kind.Heartbeat m z = absurd (never _ _ _ _ _ m z)
by_kind kind.Initialization m z = absurd (never _ _ _ _ _ m z)
by_kind kind.Uplink m z = absurd (never _ _ _ _ _ m z)
by_kind kind.Height m z = absurd (never _ _ _ _ _ m z)
by_kind kind.Ownship m z = absurd (never _ _ _ _ _ m z)
by_kind kind.Geometric m z = absurd (never _ _ _ _ _ m z)
by_kind kind.Traffic m z = absurd (never _ _ _ _ _ m z)
by_kind kind.Retired m z = refl
by_kind kind.Unknown m z = absurd (omega arith)

-- what is of the retired kind has a retired id
pub id_of_retired : (m : List ℕ) → kind_number (kind_in m) ≡ 17 → Retired m
unfolding kind_in
id_of_retired [] = λ z. absurd (omega arith)
id_of_retired (id ∷ rest) =
    rw (ne_eqb (suc (length rest)) 0 (λ e. omega arith))
    (other 0 kind.Heartbeat _ refl (other 2 kind.Initialization _ refl (other 7 kind.Uplink _ refl (other 9 kind.Height _ refl (
    other 10 kind.Ownship _ refl (other 11 kind.Geometric _ refl (other 20 kind.Traffic _ refl (
    chosen P id 30 _ _ (λ e z. subst (λ (n : ℕ). Retired (n ∷ rest)) (sym e) (basic rest)) (
    chosen P id 31 _ _ (λ e z. subst (λ (n : ℕ). Retired (n ∷ rest)) (sym e) (long rest)) (λ z. absurd (omega arith)))))))))))
  where
    P : Kind → Type 0
    P k = kind_number k ≡ 17 → Retired (id ∷ rest)

    other : (n : ℕ) (k l : Kind) → kind_number k ≡ 0 → P l → P (cond (eqb id n) k l)
    other n k l e = chosen P id n k l (λ f z. absurd (omega arith))

pub has_byte : {m : List ℕ} → Retired m → 1 ≤ length m
has_byte (basic rest) = omega arith
has_byte (long rest) = omega arith

-- and what has a retired id is of the retired kind
pub kind_of_retired : (m : List ℕ) → Retired m → kind_in m ≡ kind.Retired
unfolding kind_in
kind_of_retired m r = simp (ne_eqb (length m) 0 (λ e. omega (arith, has_byte r))) (named r)
  where
    named : {m : List ℕ} → Retired m → kind_of (get_or m 0 0) ≡ kind.Retired
    named (basic rest) = refl
    named (long rest) = refl

pub retired_is_17 : RetiredIs17
unfolding read_message
retired_is_17 m = (λ r. ap (λ (k : Kind). read_as k m) (kind_of_retired m r), λ z. id_of_retired m (by_kind (kind_in m) m z))
