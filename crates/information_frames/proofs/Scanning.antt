-- One walk that counts the frames and remembers one of them.
-- Assumes nothing.
use mathlib.Core.Path.{◌≡◌, refl, sym, ap, ◌∙◌}
use mathlib.Core.List.{List, [], ◌∷◌, ◌++◌}
use Prim.Native.Nat.{ℕ, zero, suc, ◌+◌, ◌-◌, ◌<◌, ◌≤◌}
use native.Mathlib.Omega.{arith}
use lib.ListN.{length, get_or, drop, length-append, length-drop}
use lib.Seq.{drop-cons, drop-drop}
use borrow.Author.Tests.{eq-eqb, ne_eqb}
use Rattle.information_frames.specs.declared.Frame.{Frame}
use Rattle.refusals.specs.declared.Refusal.TheVariants.{WrongLength, PastTheEnd}
use Rattle.std.specs.Prelude.{Option, Some, None, Ok, Err, slice_get}
use Rattle.information_frames.specs.Frames.{headed}
use Rattle.information_frames.specs.Walk.{listed, refused, frames_before, walk, valid_bit, payload_frames}
use Rattle.information_frames.specs.Answers.{walked, scanned}
use Rattle.information_frames.proofs.Walking.{before_none, before_both, before_end, short, ended, past, more}

-- frame n of a list with one frame more at its end
one_more : (fs : List Frame) (f : Frame) (n : ℕ) → (g : Option Frame) → (length fs ≡ n → g ≡ Some f) → ((length fs ≡ n → ⊥) → g ≡ slice_get fs n) → g ≡ slice_get (fs ++ (f ∷ [])) n
one_more [] f zero g a b = a refl
one_more [] f (suc n) g a b = b (λ e. omega arith)
one_more (h ∷ fs) f zero g a b = b (λ e. omega arith)
one_more (h ∷ fs) f (suc n) g a b = one_more fs f n g (λ e. a (omega arith)) (λ e. b (λ d. e (omega arith)))

-- the two bytes of a header, and what stands behind them
pub two : (p : List ℕ) (at : ℕ) → length p ≡ 432 → at < 423 → drop (at + 8) p ≡ get_or p (at + 8) 0 ∷ get_or p (at + 9) 0 ∷ drop (at + 10) p
two p at size room =
    let a : suc (at + 8) ≡ at + 9 = omega arith in
    let b : suc (at + 9) ≡ at + 10 = omega arith in
    rw (drop-cons p (at + 8) 0 (omega arith), a, drop-cons p (at + 9) 0 (omega arith), b)

module _ (p : List ℕ) (n : ℕ) where
  pub not_432 : (length p ≡ 432 → ⊥) → Err WrongLength ≡ scanned n (payload_frames p)
  unfolding scanned payload_frames
  not_432 h = rw (ne_eqb (length p) 432 h)

  pub not_valid : length p ≡ 432 → (valid_bit p ≡ 1 → ⊥) → Ok (walked 0 0 None) ≡ scanned n (payload_frames p)
  unfolding scanned payload_frames
  not_valid h v = rw (eq-eqb (length p) 432 h, ne_eqb (valid_bit p) 1 v)

  -- the walk has reached byte `at`: the list is that of the frames behind it and then those of the rest
  pub record Reached (at count : ℕ) (frame : Option Frame) : Type 0 where
    pub size : length p ≡ 432
    pub room : at ≤ 424
    pub few : count ≤ at
    pub behind : List Frame
    pub counts : count ≡ length behind
    pub keeps : frame ≡ slice_get behind n
    pub rest : payload_frames p ≡ frames_before behind (walk at 0 (drop (at + 8) p))

  pub start : length p ≡ 432 → valid_bit p ≡ 1 → Reached 0 0 None
  unfolding payload_frames
  start h v = record {
    size = h;
    room = omega arith;
    few = omega arith;
    behind = [];
    counts = refl;
    keeps = refl;
    rest = rw (before_none, eq-eqb (length p) 432 h, eq-eqb (valid_bit p) 1 v);
  }

  module _ {at count : ℕ} {frame : Option Frame} (c : Reached at count frame) where
    pub stops : walk at 0 (drop (at + 8) p) ≡ listed [] at → Ok (walked count at frame) ≡ scanned n (payload_frames p)
    unfolding scanned
    stops e = rw (c.rest, e, before_end, c.counts, c.keeps)

    pub at_the_end : 423 ≤ at → Ok (walked count at frame) ≡ scanned n (payload_frames p)
    at_the_end h = stops (short at _ (omega (arith, length-drop (at + 8) p)))

    module _ (room : at < 423) where
      header : drop (at + 8) p ≡ get_or p (at + 8) 0 ∷ get_or p (at + 9) 0 ∷ drop (at + 10) p
      header = two p at c.size room

      left : length (drop (at + 10) p) ≡ 422 - at
      left = omega (arith, length-drop (at + 10) p, c.size)

      module _ (f : Frame) (is : f ≡ headed at (get_or p (at + 8) 0) (get_or p (at + 9) 0)) where
        pub at_end : f.length ≡ 0 → Ok (walked count at frame) ≡ scanned n (payload_frames p)
        at_end z = stops (rw header (ended at _ _ _ f is z))

        pub refused_past : (f.length ≡ 0 → ⊥) → 422 - at < f.length → payload_frames p ≡ refused PastTheEnd
        unfolding frames_before
        refused_past z l = rw (c.rest, header, past at _ _ (drop (at + 10) p) f is z (omega (arith, left)))

        pub runs_past : (f.length ≡ 0 → ⊥) → 422 - at < f.length → Err PastTheEnd ≡ scanned n (payload_frames p)
        unfolding scanned
        runs_past z l = rw (refused_past z l)

        pub goes_on : (f.length ≡ 0 → ⊥) → f.length ≤ 422 - at → (g : Option Frame) → (count ≡ n → g ≡ Some f) → ((count ≡ n → ⊥) → g ≡ frame)
            → Reached (at + (f.length + 2)) (count + 1) g
        goes_on z l g i j =
            let e : at + 10 + f.length ≡ at + (f.length + 2) + 8 = omega arith in
            let w : walk at 0 (drop (at + 8) p) ≡ frames_before (f ∷ []) (walk (at + (f.length + 2)) 0 (drop (at + (f.length + 2) + 8) p)) =
            rw header (more at _ _ _ f is z (omega (arith, left)) ∙ rw (drop-drop, e)) in
            record {
              size = c.size;
              room = omega arith;
              few = omega (arith, c.few);
              behind = c.behind ++ (f ∷ []);
              counts = omega (arith, c.counts, length-append c.behind (f ∷ []));
              keeps = one_more c.behind f n g (λ e. i (c.counts ∙ e)) (λ e. j (λ d. e (sym c.counts ∙ d)) ∙ c.keeps);
              rest = c.rest ∙ ap (frames_before c.behind) w ∙ before_both c.behind (f ∷ []) _;
            }
