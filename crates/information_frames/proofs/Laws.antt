-- What is proved of listing and adding, and the samples of 001.
-- Assumes nothing.
use mathlib.Core.Path.{◌≡◌, refl, ◌∙◌}
use mathlib.Core.Bool.{Bool, true, false, cond}
use mathlib.Core.List.{List, [], ◌∷◌, ◌++◌, map, append_assoc, append-nil}
use Prim.Native.Nat.{ℕ, ◌+◌, ◌≤◌}
use native.Mathlib.Omega.{arith}
use lib.Dec.{ltb}
use lib.ListN.{length}
use borrow.Author.Tests.{ltb-false}
use Rattle.std.specs.Prelude.{Ok, Err}
use Rattle.information_frames.specs.declared.Frame.{Frame}
use Rattle.refusals.specs.declared.Refusal.TheVariants.{BadField, NoRoom}
use Rattle.information_frames.specs.Walk.{listed, frames_before, walk, payload_frames}
use Rattle.information_frames.specs.Answers.{frame_list}
use Rattle.information_frames.specs.Adding.{is_good, adding, with_frame}
use Rattle.information_frames.specs.Contents.{Content, content_of, contents, new_frame}
use Rattle.information_frames.specs.Claims.{Fixed, AddedListed, AllAdded, nothing, also, AllAddedListed}
use Rattle.information_frames.specs.Samples.{bytes_of, rows, graphical1, graphical2, textual, Samples}
use Rattle.information_frames.proofs.Rows.{InRow, row_le, in_row}
use Rattle.information_frames.proofs.Putting.{good}
use Rattle.information_frames.proofs.Growing.{grown, old_data, new_data}

pub fixed : Fixed
unfolding payload_frames
fixed p q n v d = rw (n, v, d)

-- what an accepted frame has met
met : (fs : List Frame) (end kind n : ℕ) → Ok (tt {0}) ≡ adding (listed fs end) kind n → (is_good kind n ≡ true) × (end + 2 + n ≤ 424)
unfolding adding
met fs end kind n = go (is_good kind n) (ltb 424 (end + 2 + n)) refl
  where
    go : (t u : Bool) → ltb 424 (end + 2 + n) ≡ u → Ok (tt {0}) ≡ cond t (cond u (Err NoRoom) (Ok (tt {0}))) (Err BadField) → (t ≡ true) × (end + 2 + n ≤ 424)
    go true false e h = (refl, ltb-false 424 (end + 2 + n) e)
    go true true e h = absurd (let z : ◌≡◌ {A = ℕ} 0 1 = cc in omega arith)
    go false u e h = absurd (let z : ◌≡◌ {A = ℕ} 0 1 = cc in omega arith)

-- what each frame before `end` gives alike, the whole list gives alike
alike : (c d : Frame → Content) (end : ℕ) → ((f : Frame) → f.at + (f.length + 2) ≤ end → c f ≡ d f) → (at : ℕ) (fs : List Frame) → InRow at fs end → map c fs ≡ map d fs
unfolding InRow
alike c d end h at [] r = refl
alike c d end h at (f ∷ fs) r =
    let l = row_le (at + (f.length + 2)) fs end r.2 in
    rw (h f (omega (arith, r.0, l)), alike c d end h (at + (f.length + 2)) fs r.2)

map_one : (c : Frame → Content) (fs : List Frame) (f : Frame) → map c (fs ++ (f ∷ [])) ≡ map c fs ++ (c f ∷ [])
map_one c [] f = refl
map_one c (g ∷ fs) f = rw (map_one c fs f)

pub added_listed : AddedListed
unfolding contents content_of
added_listed p q kind xs fs end is a =
    let s = in_row p is in
    let h = met fs end kind (length xs) (rw is at a.answers) in
    let g = good kind (length xs) h.0 in
    let w : q ≡ with_frame p end kind xs = rw is at a.leaves in
    let l : payload_frames q ≡ listed (fs ++ (new_frame end kind xs ∷ [])) (end + (length xs + 2)) = rw w (grown p end kind xs s.0 h.1 fs is g.0 g.1) in (
      l,
      rw (l, is, map_one, w, new_data p end kind xs s.0 h.1, alike (content_of (with_frame p end kind xs)) (content_of p) end (λ f i. rw (old_data p end kind xs s.0 h.1 f i)) 0 fs s.1),
    )

added : (p q : List ℕ) (cs : List Content) → AllAdded p cs q → (fs : List Frame) (end : ℕ) → payload_frames p ≡ listed fs end → contents q ≡ contents p ++ cs
added p q cs nothing fs end is = rw append-nil
added p r cs (also a b) fs end is =
    let l = added_listed p _ _ _ fs end is a in
    added _ r _ b _ _ l.0 ∙ rw (l.1, append_assoc)

pub all_added_listed : AllAddedListed
unfolding contents
all_added_listed p q cs end is a = added p q cs a [] end is ∙ rw is

pub samples : Samples
unfolding frame_list payload_frames walk frames_before bytes_of rows graphical1 graphical2 textual
samples = (refl, refl, refl, refl, refl, refl)
