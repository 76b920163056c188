-- What the stores of a frame leave, and the ways that adding ends.
-- Assumes nothing.
use mathlib.Core.Path.{◌≡◌, refl, ◌∙◌}
use mathlib.Core.Bool.{true, false, ◌&&◌}
use mathlib.Core.List.{List, [], ◌∷◌, ◌++◌, append_assoc, append-nil}
use Prim.Native.Nat.{ℕ, suc, ◌+◌, ◌-◌, ◌*◌, ◌/◌, ◌%◌, ◌<◌, ◌≤◌}
use native.Mathlib.Omega.{arith}
use lib.Dec.{leb}
use lib.ListN.{length, get_or, take, drop, set, replicate, length-set, length-drop}
use lib.Seq.{take-suc-set, length-take-le, paste, length-paste, take-paste, take_all}
use borrow.Rule.Slice.PartMut.{put_mid}
use Rattle.std.proofs.lemmas.List.{drop_all}
use Rattle.std.proofs.lemmas.Slice.{put_mid-paste}
use borrow.Author.Tests.{lt-ltb, le-ltb, leb-true}
use Rattle.numbers.proofs.Every.{both}
use Rattle.information_frames.specs.declared.Frame.{Frame}
use Rattle.refusals.specs.declared.Refusal.{Refusal}
use Rattle.refusals.specs.declared.Refusal.TheVariants.{BadField, NoRoom}
use Rattle.std.specs.Prelude.{Ok, Err}
use Rattle.information_frames.specs.Frames.{frame_bytes, with_valid_bit}
use Rattle.information_frames.specs.Walk.{listed, refused, payload_frames}
use Rattle.information_frames.specs.Adding.{is_good, adding, with_frame, Adds}

-- bytes copied into a list from a place on, and then zeros to its end
pub filled : (q xs : List ℕ) (at : ℕ) → at + length xs ≤ length q → (ys : List ℕ) → ys ≡ xs → (r : List ℕ) → r ≡ put_mid at (at + length xs - at) q ys
    → (zs : List ℕ) → zs ≡ replicate (length (take (length r - (at + length xs)) (drop (at + length xs) r))) 0
    → put_mid (at + length xs) (length r - (at + length xs)) r zs ≡ take at q ++ (xs ++ replicate (length q - (at + length xs)) 0)
filled q xs at h ys d r e zs f =
    let n = length xs in
    let k : n ≡ at + n - at = omega arith in
    let p : r ≡ paste q at xs n = e ∙ put_mid-paste at (at + n - at) q ys xs n d k refl in
    let size : length r ≡ length q = rw p (length-paste q at xs n h (omega arith)) in
    let none : drop (length r - (at + n)) (drop (at + n) r) ≡ [] = drop_all (length r - (at + n)) (drop (at + n) r) (omega (arith, length-drop (at + n) r)) in
    let head : take (at + n) r ≡ take at q ++ xs = rw (p, take-paste q at xs n (omega arith) (omega arith), take_all n xs (omega arith)) in
    let left : length (take (length r - (at + n)) (drop (at + n) r)) ≡ length r - (at + n) =
    length-take-le (length r - (at + n)) (drop (at + n) r) (omega (arith, length-drop (at + n) r)) in
    rw (none, head, f, left, size, append-nil) (append_assoc (take at q) xs _)

module _ (p : List ℕ) (end kind : ℕ) (xs : List ℕ) where
  pub put_is : (v : ℕ) (s : List ℕ) → length p ≡ 432 → end + 2 + length xs ≤ 424 → v ≡ with_valid_bit (get_or p 6 0)
      → (q : List ℕ) → q ≡ set (set (set p 6 v) (end + 8) (length xs / 2)) (end + 9) (length xs % 2 * 128 + kind)
      → s ≡ take (end + 10) q ++ (xs ++ replicate (432 - (end + 10 + length xs)) 0) → s ≡ with_frame p end kind xs
  unfolding with_frame frame_bytes
  put_is v s size fits i q j e =
      let a = length xs / 2 in
      let b = length xs % 2 * 128 + kind in
      let nine : end + 9 ≡ suc (end + 8) = omega arith in
      let ten : end + 10 ≡ suc (end + 9) = omega arith in
      let zeros : 432 - (end + 10 + length xs) ≡ 424 - (end + 2 + length xs) = omega arith in
      let last : take (end + 10) q ≡ take (end + 9) (set (set p 6 v) (end + 8) a) ++ (b ∷ []) =
      rw (j, ten) (take-suc-set (set (set p 6 v) (end + 8) a) (end + 9) b (simp length-set (omega arith))) in
      let first : take (end + 9) (set (set p 6 v) (end + 8) a) ≡ take (end + 8) (set p 6 v) ++ (a ∷ []) =
      rw nine (take-suc-set (set p 6 v) (end + 8) a (simp length-set (omega arith))) in
      e ∙ rw (zeros, last, first, ← i) (simp append_assoc)

pub good : (kind n : ℕ) → is_good kind n ≡ true → (kind ≤ 15) × (1 ≤ n) × (n ≤ 422)
good kind n h =
    let l = both (leb kind 15 && leb 1 n) (leb n 422) h in
    let k = both (leb kind 15) (leb 1 n) l.0 in
    (leb-true kind 15 k.0, leb-true 1 n k.1, leb-true n 422 l.1)

module _ (p : List ℕ) (kind : ℕ) (xs : List ℕ) where
  pub add_refused : (k : Refusal) → payload_frames p ≡ refused k → Adds p kind xs (Err k) p
  unfolding adding
  add_refused k e = record { answers = rw e; leaves = refl }

  module _ (fs : List Frame) (end : ℕ) (e : payload_frames p ≡ listed fs end) where
    pub add_bad : is_good kind (length xs) ≡ false → Adds p kind xs (Err BadField) p
    unfolding adding
    add_bad g = record { answers = rw (e, g); leaves = refl }

    module _ (g : is_good kind (length xs) ≡ true) where
      pub add_full : 424 < end + 2 + length xs → Adds p kind xs (Err NoRoom) p
      unfolding adding
      add_full l = record { answers = rw (e, g, lt-ltb 424 (end + 2 + length xs) l); leaves = refl }

      pub add_done : end + 2 + length xs ≤ 424 → (q : List ℕ) → q ≡ with_frame p end kind xs → Adds p kind xs (Ok tt) q
      unfolding adding
      add_done l q x = record { answers = rw (e, g, le-ltb 424 (end + 2 + length xs) l); leaves = x ∙ rw e }
