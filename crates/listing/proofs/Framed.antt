-- The line of a frame, whatever stood before it; and of the frame of a message with a retired id.
-- Assumes nothing.
use mathlib.Core.Path.{◌≡◌, refl, sym, ap, ap₂, ◌∙◌, subst}
use mathlib.Core.List.{List, [], ◌∷◌, ◌++◌, append_assoc, append-nil}
use Prim.Native.Nat.{ℕ, ◌≤◌, ◌<◌}
use native.Mathlib.Omega.{arith}
use lib.Dec.{ltb}
use lib.ListN.{length, get_or, replicate, length-append}
use lib.Seq.{get_or-append_seam, append_snoc}
use borrow.Author.Tests.{ne_eqb, le-leb}
use Rattle.numbers.proofs.Every.{also_false}
use Rattle.fcs.specs.Fcs.{fcs}
use Rattle.framing.specs.Stuffing.{flag, stuff}
use Rattle.framing.specs.Frame.{low_first, enclosed, frame_of}
use Rattle.framing.specs.Framing.{framing}
use Rattle.framing.proofs.Unstuffing.{stuffed_flagless}
use Rattle.collecting.specs.Step.{fresh}
use Rattle.collecting.specs.Stream.{Reply, nothing, message, reply_to, after, answers}
use Rattle.collecting.specs.Claims.{Answered}
use Rattle.collecting.proofs.Closing.{pieces}
use Rattle.collecting.proofs.Filling.{unflagged_most}
use Rattle.collecting.proofs.Found.{frames_read}
use Rattle.messages.specs.Message.{read_message}
use Rattle.messages.proofs.Retired.{has_byte, retired_is_17}
use Rattle.listing.specs.Line.{Field, digits, dash}
use Rattle.listing.specs.Listing.{State, collector, opening, start, answer_line, reply_line, text_of, counted, passed, advanced, reached, texts}
use Rattle.listing.specs.Claims.{AddsLine, FramesListed, RetiredFrames}
use Rattle.listing.proofs.Steps.{reached-append, texts-append, reached_taken}
use Rattle.listing.proofs.Passing.{reached_flagless, texts_flagless}
use Rattle.listing.proofs.Trailing.{inside_flag, lead_is}
use Rattle.refusals.specs.Numbers.{number_in}

-- the lister's collector is collecting's
collector_reached : (s : State) (bs : List ℕ) → collector (reached s bs) ≡ after (collector s) bs
unfolding reached advanced counted after
collector_reached s [] = refl
collector_reached s (b ∷ bs) = collector_reached (advanced s b) bs

-- what the closing flag is answered, out of the answers to the whole list
last_answer : (bs : List ℕ) (front : List Reply) (r : Reply) → answers fresh (bs ++ (flag ∷ [])) ≡ front ++ (r ∷ []) → reply_to (after fresh bs) flag ≡ r
unfolding answers
last_answer bs front r e =
    let a = answers fresh bs in
    let x = reply_to (after fresh bs) flag in
    let f : a ++ (x ∷ []) ≡ front ++ (r ∷ []) = sym (pieces fresh bs (flag ∷ [])) ∙ e in
    let n : length a ≡ length front = omega (arith, length-append a (x ∷ []), length-append front (r ∷ []), ap length f) in
    sym (get_or-append_seam a x [] nothing) ∙ ap₂ (λ (l : List Reply) (k : ℕ). get_or l k nothing) f n ∙ get_or-append_seam front r [] nothing

module _ (before m : List ℕ) where
  abbrev stuffed : List ℕ
  stuffed = stuff (m ++ low_first (fcs m))

  abbrev opened : State
  opened = reached start (before ++ (flag ∷ []))

  closing : 1 ≤ length m → length m ≤ 436 → reply_to (collector (reached opened stuffed)) flag ≡ message m
  unfolding Answered enclosed start opening
  closing some most =
      let bs = before ++ (flag ∷ stuffed) in
      let e : reached opened stuffed ≡ reached start bs = sym (reached-append start (before ++ (flag ∷ [])) stuffed) ∙ ap (reached start) (append_snoc before flag stuffed) in
      ap (λ (s : State). reply_to (collector s) flag) e
      ∙ ap (λ c. reply_to c flag) (collector_reached start bs)
      ∙ last_answer bs (answers fresh (before ++ (flag ∷ [])) ++ replicate (length stuffed) nothing) (message m)
      (ap (answers fresh) (append_assoc before (flag ∷ stuffed) (flag ∷ [])) ∙ frames_read before m some most)

  -- between two flags the number of lines and the offset stay
  same_line : (answer : ℕ) (id len pos : Field) → answer_line (reached opened stuffed).lister answer id len pos ≡ answer_line opened.lister answer id len pos
  unfolding answer_line passed reached
  same_line answer id len pos =
      let s = reached start before in
      let lead : s.lister.lead ≤ s.lister.taken = omega (arith, lead_is before, unflagged_most before, reached_taken start before) in
      let inside : opened.lister.lead < opened.lister.taken = rw (reached-append start before (flag ∷ [])) (inside_flag s flag lead refl).0.flagged in
      rw (reached_flagless opened stuffed (omega arith) (stuffed_flagless (m ++ low_first (fcs m))), ne_eqb opened.lister.lead opened.lister.taken (λ e. omega arith), also_false (ltb 0 (length stuffed)))

pub frames_listed : FramesListed
unfolding frame_of enclosed texts text_of reply_line
frames_listed before m some most =
    let ws = stuffed before m in
    let s = opened before m in
    ap (texts start) (sym (append_snoc before flag (ws ++ (flag ∷ []))))
    ∙ texts-append start (before ++ (flag ∷ [])) (ws ++ (flag ∷ []))
    ∙ ap (λ (l : List ℕ). texts start (before ++ (flag ∷ [])) ++ l)
    (texts-append s ws (flag ∷ [])
    ∙ ap₂ (λ (a b : List ℕ). a ++ b) (texts_flagless s ws (stuffed_flagless (m ++ low_first (fcs m)))) (append-nil (text_of (reached s ws) flag))
    ∙ ap (reply_line (reached s ws).lister) (closing before m some most)
    ∙ same_line before m (number_in (read_message m)) (digits (get_or m 0 0)) (digits (length m)) dash)

pub retired_frames : RetiredFrames
unfolding framing
retired_frames before m room r most fits =
    let some = has_byte r in (
      simp (le-leb 1 (length m) some, le-leb (length m) 436 most, le-leb (length (frame_of m)) room fits),
      frames_read before m some most,
      subst (AddsLine before m) (ap number_in ((retired_is_17 m).0 r)) (frames_listed before m some most),
    )
