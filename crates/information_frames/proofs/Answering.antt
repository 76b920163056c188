-- From what one walk finds to the answers.
-- Assumes nothing.
use mathlib.Core.Path.{◌≡◌}
use Prim.Native.Nat.{ℕ}
use Rattle.std.specs.Prelude.{Result, Ok, Err, ok_or, length, slice_get}
use Rattle.refusals.specs.declared.Refusal.{Refusal}
use Rattle.refusals.specs.declared.Refusal.TheVariants.{NoFrame}
use Rattle.information_frames.specs.declared.Walked.{Walked}
use Rattle.information_frames.specs.Walk.{Frames, listed, refused}
use Rattle.information_frames.specs.Answers.{frame_list, nth_frame, scanned}

module _ (n : ℕ) {w : Walked} {r : Result Walked Refusal} where
  pub list_is : (L : Frames) → r ≡ Ok w → r ≡ scanned n L → Ok w.list ≡ frame_list L
  unfolding scanned frame_list
  list_is (listed fs end) g h =
      let e : w ≡ record { list = record { count = length fs; end = end }; frame = slice_get fs n } = cc in
      rw e
  list_is (refused x) g h = cc

  pub frame_is : (L : Frames) → r ≡ Ok w → r ≡ scanned n L → ok_or w.frame NoFrame ≡ nth_frame L n
  unfolding scanned nth_frame
  frame_is (listed fs end) g h =
      let e : w ≡ record { list = record { count = length fs; end = end }; frame = slice_get fs n } = cc in
      rw e
  frame_is (refused x) g h = cc

pub refused_is : (n : ℕ) {k : Refusal} {r : Result Walked Refusal} (L : Frames) → r ≡ Err k → r ≡ scanned n L → L ≡ refused k
unfolding scanned
refused_is n (listed fs end) g h = cc
refused_is n (refused x) g h = cc
