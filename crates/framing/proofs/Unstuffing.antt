-- Stuffing and unstuffing undo each other, and what was stuffed has no flag in it.
-- Assumes nothing.
use mathlib.Core.Path.{◌≡◌, refl, sym, ap, ap₂, ◌∙◌, subst}
use mathlib.Core.Bool.{Bool, true, false, cond, ◌||◌}
use Prim.Native.Nat.{ℕ, zero, suc, ◌≤◌, ◌<◌}
use mathlib.Core.List.{List, [], ◌∷◌, ◌++◌}
use native.Mathlib.Omega.{arith}
use lib.Dec.{eqb}
use lib.ListN.{length, get_or}
use borrow.Author.Tests.{ne_eqb, eqb-true, eqb-false}
use Rattle.numbers.specs.Bits.{◌⊕◌}
use Rattle.framing.specs.Stuffing.{flag, control_escape, escape, stuff, unstuffed, byte_before, unstuff, Flagless}
use Rattle.framing.specs.Claims.{Unstuffs, Restuffs, StuffedFlagless}

-- a byte is a flag, an escape, or neither
pub by_byte : (P : ℕ → Type 0) (b : ℕ) → P flag → P control_escape → (eqb b flag ≡ false → eqb b control_escape ≡ false → P b) → P b
by_byte P b p q r = go (eqb b flag) (eqb b control_escape) refl refl
  where
    go : (s t : Bool) → eqb b flag ≡ s → eqb b control_escape ≡ t → P b
    go true t e f = subst P (sym (eqb-true b flag e)) p
    go false true e f = subst P (sym (eqb-true b control_escape f)) q
    go false false e f = r e f

pub unstuff_plain : (b : ℕ) (ws : List ℕ) → eqb b control_escape ≡ false → unstuff (b ∷ ws) ≡ byte_before b (unstuff ws)
unfolding unstuff
unstuff_plain b [] e = simp e
unstuff_plain b (c ∷ ws) e = simp e

unstuff_escape : (b : ℕ) (ws : List ℕ) → unstuff (escape b ++ ws) ≡ byte_before b (unstuff ws)
unfolding unstuff escape ◌⊕◌
unstuff_escape b ws =
    by_byte (λ (b : ℕ). unstuff (escape b ++ ws) ≡ byte_before b (unstuff ws)) b refl refl
    (λ e f. simp (e, f) (unstuff_plain b ws f))

pub unstuffs : Unstuffs
unfolding stuff unstuff
unstuffs [] = refl
unstuffs (b ∷ bs) = unstuff_escape b (stuff bs) ∙ ap (byte_before b) (unstuffs bs)

-- 0x5D and 0x5E are what the two escaped bytes become
pub escape_back : (c : ℕ) → (eqb c 0x5D || eqb c 0x5E) ≡ true → escape (c ⊕ 0x20) ≡ control_escape ∷ c ∷ []
unfolding escape ◌⊕◌
escape_back c e = go (eqb c 0x5D) (eqb c 0x5E) refl refl e
  where
    go : (s t : Bool) → eqb c 0x5D ≡ s → eqb c 0x5E ≡ t → (s || t) ≡ true → escape (c ⊕ 0x20) ≡ control_escape ∷ c ∷ []
    go true t f g h = subst (λ (c : ℕ). escape (c ⊕ 0x20) ≡ control_escape ∷ c ∷ []) (sym (eqb-true c 0x5D f)) refl
    go false true f g h = subst (λ (c : ℕ). escape (c ⊕ 0x20) ≡ control_escape ∷ c ∷ []) (sym (eqb-true c 0x5E g)) refl
    go false false f g h = let z : true ≡ false = sym h in cc

pub escape_plain : (b : ℕ) → (b ≡ flag → ⊥) → eqb b control_escape ≡ false → escape b ≡ b ∷ []
unfolding escape
escape_plain b n e = simp (ne_eqb b flag n, e)

restuff_pair : (b c : ℕ) (ws : List ℕ) → (b ≡ flag → ⊥)
    → ((unstuff ws).fault ≡ 0 → stuff (unstuff ws).bytes ≡ ws)
    → ((unstuff (c ∷ ws)).fault ≡ 0 → stuff (unstuff (c ∷ ws)).bytes ≡ c ∷ ws)
    → (unstuff (b ∷ c ∷ ws)).fault ≡ 0 → stuff (unstuff (b ∷ c ∷ ws)).bytes ≡ b ∷ c ∷ ws
unfolding unstuff stuff
restuff_pair b c ws n past rest = go (eqb b control_escape) refl
  where
    two : (t : Bool) → (eqb c 0x5D || eqb c 0x5E) ≡ t → (cond t (byte_before (c ⊕ 0x20) (unstuff ws)) (unstuffed [] 1)).fault ≡ 0
        → stuff (cond t (byte_before (c ⊕ 0x20) (unstuff ws)) (unstuffed [] 1)).bytes ≡ control_escape ∷ c ∷ ws
    two true e h = ap₂ (λ (l r : List ℕ). l ++ r) (escape_back c e) (past h)
    two false e h = absurd (omega arith)

    go : (t : Bool) → eqb b control_escape ≡ t
        → (cond t (cond (eqb c 0x5D || eqb c 0x5E) (byte_before (c ⊕ 0x20) (unstuff ws)) (unstuffed [] 1)) (byte_before b (unstuff (c ∷ ws)))).fault ≡ 0
        → stuff (cond t (cond (eqb c 0x5D || eqb c 0x5E) (byte_before (c ⊕ 0x20) (unstuff ws)) (unstuffed [] 1)) (byte_before b (unstuff (c ∷ ws)))).bytes ≡ b ∷ c ∷ ws
    go true e h = two (eqb c 0x5D || eqb c 0x5E) refl h ∙ ap (λ (x : ℕ). x ∷ c ∷ ws) (sym (eqb-true b control_escape e))
    go false e h = ap₂ (λ (l r : List ℕ). l ++ r) (escape_plain b n e) (rest h)

restuff_last : (b : ℕ) → (b ≡ flag → ⊥) → (unstuff (b ∷ [])).fault ≡ 0 → stuff (unstuff (b ∷ [])).bytes ≡ b ∷ []
unfolding unstuff stuff
restuff_last b n = go (eqb b control_escape) refl
  where
    go : (t : Bool) → eqb b control_escape ≡ t → (cond t (unstuffed [] 2) (unstuffed (b ∷ []) 0)).fault ≡ 0 → stuff (cond t (unstuffed [] 2) (unstuffed (b ∷ []) 0)).bytes ≡ b ∷ []
    go true e h = absurd (omega arith)
    go false e h = simp (escape_plain b n e)

pub restuffs : Restuffs
unfolding Flagless
restuffs [] f h = unfold unstuff stuff in refl
restuffs (b ∷ []) f h = restuff_last b f.0 h
restuffs (b ∷ c ∷ ws) f h = restuff_pair b c ws f.0 (restuffs ws f.1.1) (restuffs (c ∷ ws) f.1) h

flagless_escape : (b : ℕ) (ws : List ℕ) → Flagless ws → Flagless (escape b ++ ws)
unfolding escape Flagless ◌⊕◌
flagless_escape b ws h =
    by_byte (λ (b : ℕ). Flagless (escape b ++ ws)) b (λ e. omega arith, (λ e. omega arith, h)) (λ e. omega arith, (λ e. omega arith, h))
    (λ e f. simp (e, f) (eqb-false b flag e, h))

pub stuffed_flagless : StuffedFlagless
unfolding stuff Flagless
stuffed_flagless [] = tt
stuffed_flagless (b ∷ bs) = flagless_escape b (stuff bs) (stuffed_flagless bs)

-- unstuffing gives no more bytes than there are
pub unstuff_most : (bs : List ℕ) → length (unstuff bs).bytes ≤ length bs
unfolding unstuff
unstuff_most [] = omega arith
unstuff_most (b ∷ []) = go (eqb b control_escape)
  where
    go : (t : Bool) → length (cond t (unstuffed [] 2) (unstuffed (b ∷ []) 0)).bytes ≤ 1
    go true = omega arith
    go false = omega arith
unstuff_most (b ∷ c ∷ bs) = go (eqb b control_escape) (eqb c 0x5D || eqb c 0x5E) (unstuff_most bs) (unstuff_most (c ∷ bs))
  where
    go : (t v : Bool) → length (unstuff bs).bytes ≤ length bs → length (unstuff (c ∷ bs)).bytes ≤ suc (length bs)
        → length (cond t (cond v (byte_before (c ⊕ 0x20) (unstuff bs)) (unstuffed [] 1)) (byte_before b (unstuff (c ∷ bs)))).bytes ≤ suc (suc (length bs))
    go true true h k = omega arith
    go true false h k = omega arith
    go false v h k = omega arith

pub flagless_at : (bs : List ℕ) (i : ℕ) → i < length bs → Flagless bs → get_or bs i 0 ≡ flag → ⊥
unfolding Flagless
flagless_at [] i l f = absurd (omega arith)
flagless_at (b ∷ bs) zero l f = f.0
flagless_at (b ∷ bs) (suc i) l f = flagless_at bs i (omega arith) f.1

pub flagless_more : (us : List ℕ) (b : ℕ) → Flagless us → (b ≡ flag → ⊥) → Flagless (us ++ (b ∷ []))
unfolding Flagless
flagless_more [] b f n = (n, tt)
flagless_more (u ∷ us) b f n = (f.0, flagless_more us b f.1 n)
