-- The walk, one frame at a time: what stands at a header says how the walk goes on.
-- Assumes nothing.
use mathlib.Core.Path.{◌≡◌, refl, ap, ◌∙◌, subst}
use mathlib.Core.Bool.{Bool, true, false, cond}
use mathlib.Core.List.{List, [], ◌∷◌, ◌++◌, append_assoc, append-nil}
use Prim.Native.Nat.{ℕ, zero, suc, ◌+◌, ◌<◌, ◌≤◌}
use native.Mathlib.Omega.{arith}
use native.Mathlib.Nat.{add-zero}
use lib.Dec.{eqb, ltb}
use lib.ListN.{length, drop}
use borrow.Author.Tests.{eq-eqb, ne_eqb, lt-ltb, le-ltb, eqb-true, eqb-false, ltb-true, ltb-false}
use Rattle.refusals.specs.declared.Refusal.TheVariants.{WrongLength, PastTheEnd}
use Rattle.information_frames.specs.declared.Frame.{Frame}
use Rattle.information_frames.specs.Frames.{length_in, headed}
use Rattle.information_frames.specs.Walk.{Frames, listed, refused, frames_before, walk, valid_bit, payload_frames}

pub before_none : (w : Frames) → frames_before [] w ≡ w
unfolding frames_before
before_none (listed fs end) = refl
before_none (refused k) = refl

pub before_both : (fs gs : List Frame) (w : Frames) → frames_before fs (frames_before gs w) ≡ frames_before (fs ++ gs) w
unfolding frames_before
before_both fs gs (listed hs end) = ap (λ (l : List Frame). listed l end) (simp append_assoc)
before_both fs gs (refused k) = refl

pub before_end : (fs : List Frame) (end : ℕ) → frames_before fs (listed [] end) ≡ listed fs end
unfolding frames_before
before_end fs end = rw append-nil

-- the data of a frame are passed over
passed : (n at : ℕ) (xs : List ℕ) → n ≤ length xs → walk at n xs ≡ walk (at + n) 0 (drop n xs)
unfolding walk
passed zero at xs h = ap (λ (k : ℕ). walk k 0 xs) (omega arith)
passed (suc n) at [] h = absurd (omega arith)
passed (suc n) at (x ∷ xs) h = passed n (suc at) xs (omega arith) ∙ ap (λ (k : ℕ). walk k 0 (drop n xs)) (omega arith)

-- fewer than two bytes left
pub short : (at : ℕ) (xs : List ℕ) → length xs < 2 → walk at 0 xs ≡ listed [] at
unfolding walk
short at [] h = refl
short at (a ∷ []) h = refl
short at (a ∷ b ∷ xs) h = absurd (omega arith)

-- at a header
module _ (at a b : ℕ) (xs : List ℕ) (f : Frame) (is : f ≡ headed at a b) where
  size : length_in a b ≡ f.length
  size = rw is

  pub ended : f.length ≡ 0 → walk at 0 (a ∷ b ∷ xs) ≡ listed [] at
  unfolding walk
  ended z = rw (size, eq-eqb f.length 0 z)

  pub past : (f.length ≡ 0 → ⊥) → length xs < f.length → walk at 0 (a ∷ b ∷ xs) ≡ refused PastTheEnd
  unfolding walk
  past z l = rw (size, ne_eqb f.length 0 z, lt-ltb (length xs) f.length l)

  pub more : (f.length ≡ 0 → ⊥) → f.length ≤ length xs
      → walk at 0 (a ∷ b ∷ xs) ≡ frames_before (f ∷ []) (walk (at + (f.length + 2)) 0 (drop f.length xs))
  unfolding walk
  more z l =
      let e : suc (suc at) + f.length ≡ at + (f.length + 2) = omega arith in
      rw (← is, size, ne_eqb f.length 0 z, le-ltb (length xs) f.length l, passed f.length (suc (suc at)) xs l, e)

-- what holds of a list that ends, of `PastTheEnd`, and of a list with one frame more at its front, holds of every walk
module _ (P : ℕ → List ℕ → Frames → Type 0)
    (end : (at : ℕ) (xs : List ℕ) → P at xs (listed [] at))
    (past_end : (at a b : ℕ) (xs : List ℕ) → length xs < length_in a b → P at (a ∷ b ∷ xs) (refused PastTheEnd))
    (front : (at a b : ℕ) (xs : List ℕ) (w : Frames) → 0 < length_in a b → length_in a b ≤ length xs
    → P (at + (length_in a b + 2)) (drop (length_in a b) xs) w → P at (a ∷ b ∷ xs) (frames_before (headed at a b ∷ []) w)) where
  every : (at skip : ℕ) (xs : List ℕ) → skip ≤ length xs → P (at + skip) (drop skip xs) (walk at skip xs)
  unfolding walk
  every at zero [] h = rw add-zero (end at [])
  every at (suc skip) [] h = absurd (omega arith)
  every at (suc skip) (x ∷ xs) h =
      let e : suc at + skip ≡ at + suc skip = omega arith in
      subst (λ (n : ℕ). P n (drop skip xs) (walk (suc at) skip xs)) e (every (suc at) skip xs (omega arith))
  every at zero (a ∷ []) h = rw add-zero (end at (a ∷ []))
  every at zero (a ∷ b ∷ xs) h = rw add-zero (go _ refl _ refl (every (suc (suc at)) (length_in a b) xs))
    where
      go : (t : Bool) → eqb (length_in a b) 0 ≡ t → (u : Bool) → ltb (length xs) (length_in a b) ≡ u
          → (length_in a b ≤ length xs → P (suc (suc at) + length_in a b) (drop (length_in a b) xs) (walk (suc (suc at)) (length_in a b) xs))
          → P at (a ∷ b ∷ xs) (cond t (listed [] at) (cond u (refused PastTheEnd) (frames_before (headed at a b ∷ []) (walk (suc (suc at)) (length_in a b) xs))))
      go true e u f ih = end at (a ∷ b ∷ xs)
      go false e true f ih = past_end at a b xs (ltb-true (length xs) (length_in a b) f)
      go false e false f ih =
          let l = ltb-false (length xs) (length_in a b) f in
          let s : suc (suc at) + length_in a b ≡ at + (length_in a b + 2) = omega arith in
          front at a b xs _ (omega (arith, eqb-false (length_in a b) 0 e)) l
          (subst (λ (k : ℕ). P k (drop (length_in a b) xs) (walk (suc (suc at)) (length_in a b) xs)) s (ih l))

  pub every_walk : (at : ℕ) (xs : List ℕ) → P at xs (walk at 0 xs)
  every_walk at xs = rw add-zero at (every at 0 xs (omega arith))

-- what holds of the walk over the application data, of the empty list and of the refusal holds of a payload's list
module _ (p : List ℕ) (P : Frames → Type 0) (valid : length p ≡ 432 → P (walk 0 0 (drop 8 p))) (empty : length p ≡ 432 → P (listed [] 0)) (refuse : P (refused WrongLength)) where
  pub every_payload : P (payload_frames p)
  unfolding payload_frames
  every_payload = go (eqb (length p) 432) refl (eqb (valid_bit p) 1)
    where
      go : (t : Bool) → eqb (length p) 432 ≡ t → (u : Bool) → P (cond t (cond u (walk 0 0 (drop 8 p)) (listed [] 0)) (refused WrongLength))
      go true e true = valid (eqb-true (length p) 432 e)
      go true e false = empty (eqb-true (length p) 432 e)
      go false e u = refuse
