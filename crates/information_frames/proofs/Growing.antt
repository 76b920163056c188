-- A list of frames with one more at its end.
-- Assumes nothing.
use mathlib.Core.Path.{◌≡◌, refl, sym, subst, ◌∙◌}
use mathlib.Core.List.{List, [], ◌∷◌, ◌++◌, append_assoc}
use Prim.Native.Nat.{ℕ, zero, suc, ◌+◌, ◌-◌, ◌*◌, ◌/◌, ◌%◌, ◌<◌, ◌≤◌}
use native.Mathlib.Omega.{arith}
use lib.ListN.{length, get_or, take, drop, set, replicate, length-append, length-drop, length-set, length-replicate, get_or-append, take-append-drop}
use lib.Seq.{take-add, drop_at, length-take-le, drop-append_seam, drop-append-le, drop-append-add, drop-set-lt, get_or-set_same, get_or-take, take-append-le, take-append_seam}
use borrow.Author.Tests.{eq-eqb}
use Rattle.information_frames.specs.declared.Frame.{Frame}
use Rattle.information_frames.specs.Frames.{length_in, headed, frame_bytes, with_valid_bit}
use Rattle.information_frames.specs.Walk.{Frames, listed, refused, frames_before, walk, valid_bit, payload_frames}
use Rattle.information_frames.specs.Answers.{data_in}
use Rattle.information_frames.specs.Adding.{with_frame}
use Rattle.information_frames.specs.Contents.{new_frame}
use Rattle.information_frames.proofs.Walking.{before_none, before_both, before_end, short, ended, more, every_walk, every_payload}

-- the bytes up to a list's end, followed by others, list its frames and then those of the others
Grows : ℕ → List ℕ → Frames → Type 0
Grows at xs (listed fs end) = (at ≤ end) × ((ys : List ℕ) → walk at 0 (take (end - at) xs ++ ys) ≡ frames_before fs (walk end 0 ys))
Grows at xs (refused k) = Unit {0}

grows_none : (at : ℕ) (xs : List ℕ) → Grows at xs (listed [] at)
unfolding Grows
grows_none at xs =
    let e : at - at ≡ 0 = omega arith in
    (omega arith, λ ys. rw e (sym (before_none (walk at 0 ys))))

grows : (at : ℕ) (xs : List ℕ) → Grows at xs (walk at 0 xs)
unfolding Grows frames_before
grows = every_walk Grows grows_none (λ at a b xs l. tt) front
  where
    front : (at a b : ℕ) (xs : List ℕ) (w : Frames) → 0 < length_in a b → length_in a b ≤ length xs
        → Grows (at + (length_in a b + 2)) (drop (length_in a b) xs) w → Grows at (a ∷ b ∷ xs) (frames_before (headed at a b ∷ []) w)
    front at a b xs (refused k) z l g = tt
    front at a b xs (listed fs end) z l g =
        let n = length_in a b in
        let k = end - (at + (n + 2)) in
        let e : end - at ≡ suc (suc (n + k)) = omega (arith, g.0) in (
          omega (arith, g.0),
          λ ys.
              let zs = take k (drop n xs) ++ ys in
              let t : length (take n xs) ≡ n = length-take-le n xs l in
              rw (e, take-add, append_assoc)
              (more at a b (take n xs ++ zs) (headed at a b) refl (λ e. omega arith) (omega (arith, length-append (take n xs) zs, t))
              ∙ rw (drop_at (take n xs) zs n t, g.1) (before_both (headed at a b ∷ []) fs (walk end 0 ys))),
        )

-- a payload's list, with other bytes behind it
continued : (p : List ℕ) {fs : List Frame} {end : ℕ} → payload_frames p ≡ listed fs end → (ys : List ℕ) → walk 0 0 (take end (drop 8 p) ++ ys) ≡ frames_before fs (walk end 0 ys)
unfolding Grows
continued p {fs} {end} is ys =
    let g : Grows 0 (drop 8 p) (listed fs end) =
    subst (Grows 0 (drop 8 p)) is (every_payload p (Grows 0 (drop 8 p)) (λ h. grows 0 (drop 8 p)) (λ h. grows_none 0 (drop 8 p)) tt) in
    let e : end - 0 ≡ end = omega arith in
    rw e at (g.1 ys)

zeros : (at k : ℕ) → walk at 0 (replicate k 0) ≡ listed [] at
zeros at zero = short at [] (omega arith)
zeros at (suc zero) = short at (0 ∷ []) (omega arith)
zeros at (suc (suc k)) = ended at 0 0 (replicate k 0) (headed at 0 0) refl refl

-- the bytes of a frame, and others behind them
new_frame_lem : (end kind : ℕ) (xs zs : List ℕ) → kind ≤ 15 → 1 ≤ length xs
    → walk end 0 (frame_bytes kind xs ++ zs) ≡ frames_before (new_frame end kind xs ∷ []) (walk (end + (length xs + 2)) 0 zs)
unfolding frame_bytes
new_frame_lem end kind xs zs small some =
    let b = length xs % 2 * 128 + kind in
    let n : length xs / 2 * 2 + b / 128 ≡ length xs = omega arith in
    let r : b / 16 % 8 ≡ 0 = omega arith in
    let k : b % 16 ≡ kind = omega arith in
    more end (length xs / 2) b (xs ++ zs) (new_frame end kind xs) (rw (n, r, k)) (λ e. omega arith) (omega (arith, length-append xs zs))
    ∙ rw drop-append_seam

-- a part that lies in the first of two lists
in_first : (m n : ℕ) (xs ys : List ℕ) → m + n ≤ length xs → take n (drop m (xs ++ ys)) ≡ take n (drop m xs)
in_first m n xs ys h = rw (drop-append-le m xs ys (omega arith), take-append-le n (drop m xs) ys (omega (arith, length-drop m xs)))

module _ (p : List ℕ) (end kind : ℕ) (xs : List ℕ) (size : length p ≡ 432) (fits : end + 2 + length xs ≤ 424) where
  abbrev valid : List ℕ
  valid = set p 6 (with_valid_bit (get_or p 6 0))

  abbrev front : List ℕ
  front = take (end + 8) valid

  abbrev back : List ℕ
  back = frame_bytes kind xs ++ replicate (424 - (end + 2 + length xs)) 0

  q_is : with_frame p end kind xs ≡ front ++ back
  unfolding with_frame
  q_is = refl

  front_size : length front ≡ end + 8
  front_size = length-take-le (end + 8) valid (simp length-set (omega arith))

  q_size : length (front ++ back) ≡ 432
  unfolding frame_bytes
  q_size = simp (length-append, length-replicate) (omega (arith, front_size))

  q_valid : valid_bit (front ++ back) ≡ 1
  q_valid =
      rw (get_or-append front back 0 6 (omega (arith, front_size)), get_or-take (end + 8) valid 6 0 (omega arith), get_or-set_same p 6 (with_valid_bit (get_or p 6 0)) 0 (omega arith)) (omega arith)

  q_data : drop 8 (front ++ back) ≡ take end (drop 8 p) ++ back
  q_data =
      let e : end + 8 ≡ 8 + end = omega arith in
      rw (drop-append-le 8 front back (omega (arith, front_size)), e, take-add, drop_at (take 8 valid) (take end (drop 8 valid)) 8 (length-take-le 8 valid (simp length-set (omega arith))), drop-set-lt 8 p 6 (with_valid_bit (get_or p 6 0)) (omega arith))

  -- the list of the payload with the frame: the old one, and the new frame at its end
  pub grown : (fs : List Frame) → payload_frames p ≡ listed fs end → kind ≤ 15 → 1 ≤ length xs
      → payload_frames (with_frame p end kind xs) ≡ listed (fs ++ (new_frame end kind xs ∷ [])) (end + (length xs + 2))
  unfolding payload_frames
  grown fs is small some =
      rw (q_is, eq-eqb (length (front ++ back)) 432 q_size, eq-eqb (valid_bit (front ++ back)) 1 q_valid, q_data)
      (continued p is back
      ∙ rw (new_frame_lem end kind xs _ small some, zeros, before_both, before_end))

  -- what lies before the list's end is as it was
  pub old_data : (f : Frame) → f.at + (f.length + 2) ≤ end → data_in (with_frame p end kind xs) f ≡ data_in p f
  unfolding data_in
  old_data f h =
      rw q_is
      (in_first (f.at + 10) f.length front back (omega (arith, front_size))
      ∙ sym (in_first (f.at + 10) f.length front (drop (end + 8) valid) (omega (arith, front_size)))
      ∙ rw (take-append-drop, drop-set-lt (f.at + 10) p 6 (with_valid_bit (get_or p 6 0)) (omega arith)))

  -- the new frame's data are those given
  pub new_data : data_in (with_frame p end kind xs) (new_frame end kind xs) ≡ xs
  unfolding data_in frame_bytes
  new_data =
      let e : end + 10 ≡ length front + 2 = omega (arith, front_size) in
      rw (q_is, e, drop-append-add) (take-append_seam xs _)
