-- When a payload is refused with `PastTheEnd`, and the numbers that there are.
-- Assumes nothing.
use mathlib.Core.Path.{◌≡◌, refl, sym, ap, ◌∙◌}
use mathlib.Core.Bool.{Bool, true, false, cond}
use mathlib.Core.List.{List, [], ◌∷◌, ◌++◌}
use Prim.Native.Nat.{ℕ, ◌+◌, ◌<◌, ◌≤◌}
use native.Mathlib.Omega.{arith}
use lib.Dec.{eqb, ltb}
use lib.ListN.{length, get_or, drop, length-drop}
use lib.Seq.{drop-drop}
use borrow.Author.Tests.{eq-eqb, ne_eqb}
use Rattle.std.specs.Prelude.{Option, Some, None, Ok, Err, ok_or, slice_get}
use Rattle.refusals.specs.declared.Refusal.TheVariants.{WrongLength, BadField, NoRoom, PastTheEnd, NoFrame}
use Rattle.refusals.specs.declared.Refusal.{Refusal}
use Rattle.information_frames.specs.declared.Frame.{Frame}
use Rattle.information_frames.specs.Frames.{length_in, headed}
use Rattle.information_frames.specs.Walk.{Frames, listed, refused, frames_before, walk, valid_bit, payload_frames}
use Rattle.information_frames.specs.Answers.{frame_list, nth_frame}
use Rattle.information_frames.specs.Adding.{is_good, adding}
use Rattle.information_frames.specs.Claims.{length_at, Starts, first, next, RunsPast, PastIs11, Over422Is11, is_one_of, numbers_of_list, numbers_of_frame, numbers_of_adding, Numbers}
use Rattle.information_frames.proofs.Walking.{every_walk, every_payload}
use Rattle.information_frames.proofs.Scanning.{two, Reached, start, refused_past, goes_on}
use Rattle.refusals.specs.Numbers.{number_in}

-- frames before a list are refused only where it is
refused_behind : (fs : List Frame) (w : Frames) {k : Refusal} → frames_before fs w ≡ refused k → w ≡ refused k
unfolding frames_before
refused_behind fs (listed gs end) e = cc
refused_behind fs (refused k) e = e

module _ (p : List ℕ) (size : length p ≡ 432) where
  -- a walk from byte `at`, where a frame starts if there is room for its header
  Traced : ℕ → List ℕ → Frames → Type 0
  Traced at xs w = xs ≡ drop (at + 8) p → (at ≤ 422 → Starts p at) → w ≡ refused PastTheEnd → RunsPast p

  -- two bytes and the rest, where they are those of the payload from byte `at` on
  header : (at a b : ℕ) (xs : List ℕ) → a ∷ b ∷ xs ≡ drop (at + 8) p → (at ≤ 422) × (length_in a b ≡ length_at p at) × (xs ≡ drop (at + 10) p)
  header at a b xs e =
      let room : at ≤ 422 = omega (arith, ap length e, length-drop (at + 8) p) in
      let t = e ∙ two p at size (omega arith) in
      let x : a ≡ get_or p (at + 8) 0 = cc in
      let y : b ≡ get_or p (at + 9) 0 = cc in
      (room, rw (x, y), cc)

  traced : (at : ℕ) (xs : List ℕ) → Traced at xs (walk at 0 xs)
  unfolding Traced
  traced = every_walk Traced (λ at xs e s r. absurd (let z : ◌≡◌ {A = ℕ} 0 1 = cc in omega arith)) eleven front
    where
      eleven : (at a b : ℕ) (xs : List ℕ) → length xs < length_in a b → Traced at (a ∷ b ∷ xs) (refused PastTheEnd)
      eleven at a b xs l e s r =
          let h = header at a b xs e in
          record { at = at; starts = s h.0; past = omega (arith, h.0, h.1, ap length h.2, length-drop (at + 10) p) }

      front : (at a b : ℕ) (xs : List ℕ) (w : Frames) → 0 < length_in a b → length_in a b ≤ length xs
          → Traced (at + (length_in a b + 2)) (drop (length_in a b) xs) w → Traced at (a ∷ b ∷ xs) (frames_before (headed at a b ∷ []) w)
      front at a b xs w z l ih e s r =
          let h = header at a b xs e in
          let k : at + 10 + length_in a b ≡ at + (length_in a b + 2) + 8 = omega arith in
          ih (rw (h.2, drop-drop, k)) (λ m. rw h.1 (next (s h.0) (omega (arith, h.1)) (omega (arith, h.1)))) (refused_behind _ w r)

  module _ (valid : valid_bit p ≡ 1) where
    -- the walk reaches each byte at which a frame starts
    reached : {at : ℕ} → Starts p at → (at < 423) × (count : ℕ) × (frame : Option Frame) × Reached p 0 at count frame
    reached first = (omega arith, 0, None, start p 0 size valid)
    reached (next {at = at} s some l) =
        let r = reached s in
        let f = headed at (get_or p (at + 8) 0) (get_or p (at + 9) 0) in
        (omega arith, _, _, goes_on p 0 r.3 r.0 f refl (λ e. omega arith) (omega arith) (cond (eqb r.1 0) (Some f) r.2) (λ e. rw (eq-eqb r.1 0 e)) (λ e. rw (ne_eqb r.1 0 e)))

    refuses : RunsPast p → payload_frames p ≡ refused PastTheEnd
    refuses x =
        let r = reached x.starts in
        refused_past p 0 r.3 r.0 (headed x.at _ _) refl (λ e. omega arith) (omega arith)

    traced_past : payload_frames p ≡ refused PastTheEnd → RunsPast p
    unfolding Traced
    traced_past e =
        let s = start p 0 size valid in
        traced 0 (drop 8 p) refl (λ h. first) (refused_behind s.behind _ (sym s.rest ∙ e))

pub past_is_11 : PastIs11
past_is_11 p size valid = (refuses p size valid, traced_past p size valid)

pub over_422_is_11 : Over422Is11
over_422_is_11 p at size valid s long = refuses p size valid (record { at = at; starts = s; past = omega arith })

-- what holds of every list, of `WrongLength` and of `PastTheEnd` holds of every payload
module _ (P : Frames → Type 0) (end : (fs : List Frame) (at : ℕ) → P (listed fs at)) (seven : P (refused WrongLength)) (eleven : P (refused PastTheEnd)) where
  before : (fs : List Frame) (w : Frames) → P w → P (frames_before fs w)
  unfolding frames_before
  before fs (listed gs at) h = end (fs ++ gs) at
  before fs (refused k) h = h

  refusals : (p : List ℕ) → P (payload_frames p)
  refusals p =
      every_payload p P (λ h. every_walk (λ at xs w. P w) (λ at xs. end [] at) (λ at a b xs l. eleven) (λ at a b xs w z l ih. before _ w ih) 0 (drop 8 p)) (λ h. end [] 0) seven

pub numbers : Numbers
unfolding is_one_of frame_list nth_frame adding
numbers p n kind size = (
  refusals (λ w. is_one_of numbers_of_list (number_in (frame_list w)) ≡ true) (λ fs end. refl) refl refl p,
  refusals (λ w. is_one_of numbers_of_frame (number_in (nth_frame w n)) ≡ true) (λ fs end. found (slice_get fs n)) refl refl p,
  refusals (λ w. is_one_of numbers_of_adding (number_in (adding w kind size)) ≡ true) (λ fs end. added (is_good kind size) (ltb 424 (end + 2 + size))) refl refl p,
)
  where
    found : (f : Option Frame) → is_one_of numbers_of_frame (number_in (ok_or f NoFrame)) ≡ true
    found (Some f) = refl
    found None = refl

    added : (t u : Bool) → is_one_of numbers_of_adding (number_in (cond t (cond u (Err NoRoom) (Ok (tt {0}))) (Err BadField))) ≡ true
    added true true = refl
    added true false = refl
    added false u = refl
