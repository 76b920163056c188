-- The frames of a list: one directly after the other, each with some data, all inside the application data.
-- Assumes nothing.
use mathlib.Core.Path.{◌≡◌, refl, sym, ◌∙◌, subst}
use mathlib.Core.List.{List, [], ◌∷◌}
use Prim.Native.Nat.{ℕ, zero, suc, ◌+◌, ◌*◌, ◌<◌, ◌≤◌}
use native.Mathlib.Omega.{arith}
use lib.ListN.{length, get_or, drop, length-drop}
use lib.Seq.{length-take-le}
use Rattle.information_frames.specs.declared.Frame.{Frame}
use Rattle.information_frames.specs.declared.FrameList.{FrameList}
use Rattle.refusals.specs.declared.Refusal.{Refusal}
use Rattle.refusals.specs.declared.Refusal.TheVariants.{NoFrame}
use Rattle.std.specs.Prelude.{Option, Some, None, Result, Ok, Err, ok_or, slice_get}
use Rattle.std.proofs.lemmas.Option.{slice_get_within, get_or_from_slice_get}
use Rattle.information_frames.specs.Frames.{length_in, headed}
use Rattle.information_frames.specs.Walk.{Frames, listed, refused, frames_before, walk, payload_frames}
use Rattle.information_frames.specs.Answers.{frame_list, nth_frame, data_in, none}
use Rattle.information_frames.specs.Adding.{end_of}
use Rattle.information_frames.specs.Contents.{frames_in}
use Rattle.information_frames.specs.Claims.{AtMost141, Inside, Apart}
use Rattle.information_frames.proofs.Walking.{every_walk, every_payload}

-- from byte `at` up to byte `end`
unfoldable pub InRow : ℕ → List Frame → ℕ → Type 0
InRow at [] end = at ≡ end
InRow at (f ∷ fs) end = (f.at ≡ at) × (0 < f.length) × InRow (at + (f.length + 2)) fs end

-- a walk from byte `at` over the bytes xs
Within : ℕ → List ℕ → Frames → Type 0
Within at xs (listed fs end) = InRow at fs end × (end ≤ at + length xs)
Within at xs (refused k) = Unit {0}

within : (at : ℕ) (xs : List ℕ) → Within at xs (walk at 0 xs)
unfolding Within InRow frames_before
within = every_walk Within (λ at xs. (refl, omega arith)) (λ at a b xs l. tt) front
  where
    front : (at a b : ℕ) (xs : List ℕ) (w : Frames) → 0 < length_in a b → length_in a b ≤ length xs
        → Within (at + (length_in a b + 2)) (drop (length_in a b) xs) w → Within at (a ∷ b ∷ xs) (frames_before (headed at a b ∷ []) w)
    front at a b xs (listed fs end) z l ih = ((refl, z, ih.0), omega (arith, ih.1, length-drop (length_in a b) xs))
    front at a b xs (refused k) z l ih = tt

Sound : List ℕ → Frames → Type 0
Sound p (listed fs end) = (length p ≡ 432) × InRow 0 fs end × (end ≤ 424)
Sound p (refused k) = Unit {0}

sound : (p : List ℕ) → Sound p (payload_frames p)
unfolding Sound InRow Within
sound p = every_payload p (Sound p) (λ h. inside h (walk 0 0 (drop 8 p)) (within 0 (drop 8 p))) (λ h. (h, refl, omega arith)) tt
  where
    inside : length p ≡ 432 → (w : Frames) → Within 0 (drop 8 p) w → Sound p w
    inside h (listed fs end) r = (h, r.0, omega (arith, r.1, length-drop 8 p))
    inside h (refused k) r = tt

-- a payload that lists frames has 432 bytes, and its frames are in a row within 424
pub in_row : (p : List ℕ) {fs : List Frame} {end : ℕ} → payload_frames p ≡ listed fs end → (length p ≡ 432) × InRow 0 fs end × (end ≤ 424)
unfolding Sound
in_row p e = subst (Sound p) e (sound p)

pub row_le : (at : ℕ) (fs : List Frame) (end : ℕ) → InRow at fs end → at + length fs * 3 ≤ end
unfolding InRow
row_le at [] end r = omega (arith, r)
row_le at (f ∷ fs) end r = omega (arith, row_le (at + (f.length + 2)) fs end r.2)

row_at : (at : ℕ) (fs : List Frame) (end n : ℕ) → InRow at fs end → n < length fs
    → (at ≤ (get_or fs n none).at) × ((get_or fs n none).at + ((get_or fs n none).length + 2) ≤ end)
unfolding InRow
row_at at [] end n r h = absurd (omega arith)
row_at at (f ∷ fs) end zero r h = (omega (arith, r.0), omega (arith, r.0, row_le (at + (f.length + 2)) fs end r.2))
row_at at (f ∷ fs) end (suc n) r h =
    let i = row_at (at + (f.length + 2)) fs end n r.2 (omega arith) in
    (omega arith, i.1)

row_apart : (at : ℕ) (fs : List Frame) (end i j : ℕ) → InRow at fs end → i < j → j < length fs
    → (get_or fs i none).at + ((get_or fs i none).length + 2) ≤ (get_or fs j none).at
unfolding InRow
row_apart at fs end i zero r l h = absurd (omega arith)
row_apart at [] end i (suc j) r l h = absurd (omega arith)
row_apart at (f ∷ fs) end zero (suc j) r l h = omega (arith, r.0, (row_at (at + (f.length + 2)) fs end j r.2 (omega arith)).0)
row_apart at (f ∷ fs) end (suc i) (suc j) r l h = row_apart (at + (f.length + 2)) fs end i j r.2 (omega arith) (omega arith)

-- the frame of a number that is answered
found : (L : Frames) (n : ℕ) (f : Frame) → nth_frame L n ≡ Ok f
    → (L ≡ listed (frames_in L) (end_of L)) × (n < length (frames_in L)) × (f ≡ get_or (frames_in L) n none)
unfolding nth_frame
found (listed fs end) n f = go (slice_get fs n) refl
  where
    go : (g : Option Frame) → slice_get fs n ≡ g → ok_or g NoFrame ≡ Ok f → (listed fs end ≡ listed fs end) × (n < length fs) × (f ≡ get_or fs n none)
    go (Some g) e h =
        let i : g ≡ f = cc in
        (refl, slice_get_within fs n g e, sym (get_or_from_slice_get fs n g none e ∙ i))
    go None e h = absurd (let z : ◌≡◌ {A = ℕ} 0 1 = cc in omega arith)
found (refused k) n f = λ h. absurd (let z : ◌≡◌ {A = ℕ} 0 1 = cc in omega arith)

pub inside : Inside
unfolding data_in
inside p n f h =
    let a = found (payload_frames p) n f h in
    let s = in_row p a.0 in
    let r = row_at 0 _ _ n s.1 a.1 in
    let l : f.at + (f.length + 2) ≤ 424 = rw a.2 (omega (arith, r.1, s.2)) in
    (s.0, l, length-take-le f.length (drop (f.at + 10) p) (omega (arith, length-drop (f.at + 10) p, s.0)))

pub apart : Apart
apart p i j f g l x y =
    let a = found (payload_frames p) i f x in
    let b = found (payload_frames p) j g y in
    rw (a.2, b.2) (row_apart 0 _ _ i j (in_row p a.0).1 l b.1)

counts : (L : Frames) {l : FrameList} {r : Result FrameList Refusal} → r ≡ Ok l → r ≡ frame_list L → (L ≡ listed (frames_in L) l.end) × (length (frames_in L) ≡ l.count)
unfolding frame_list
counts (listed fs end) {l} g h =
    let e : l ≡ record { count = length fs; end = end } = cc in
    (rw e, rw e)
counts (refused k) g h = absurd (let z : ◌≡◌ {A = ℕ} 0 1 = cc in omega arith)

pub refused_is : (L : Frames) {k : Refusal} {r : Result FrameList Refusal} → r ≡ Err k → r ≡ frame_list L → L ≡ refused k
unfolding frame_list
refused_is (listed fs end) g h = cc
refused_is (refused k) g h = cc

-- what a count says of the payload
pub record Counted (p : List ℕ) (n end : ℕ) : Type 0 where
  pub list : payload_frames p ≡ listed (frames_in (payload_frames p)) end
  pub size : length p ≡ 432
  pub inside : end ≤ 424
  pub few : n * 3 ≤ end

pub counted_is : (p : List ℕ) {l : FrameList} {r : Result FrameList Refusal} → r ≡ Ok l → r ≡ frame_list (payload_frames p) → Counted p l.count l.end
counted_is p {l} g h =
    let c = counts (payload_frames p) g h in
    let s = in_row p c.0 in
    record { list = c.0; size = s.0; inside = s.2; few = omega (arith, row_le 0 _ l.end s.1, c.1) }

pub at_most_141 : AtMost141
at_most_141 p n end h =
    let c = counted_is p h refl in
    omega arith
