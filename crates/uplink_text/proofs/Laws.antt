-- A text written, added to a payload and found there; and the text of a part that is handed on.
-- Assumes nothing.
use mathlib.Core.Path.{◌≡◌, refl, sym, ap, ◌∙◌, subst}
use Prim.Native.Nat.{ℕ, ◌+◌}
use mathlib.Core.List.{List, [], ◌∷◌, ◌++◌, map}
use native.Mathlib.Omega.{arith}
use lib.ListN.{length, get_or, take, length-append, length-map, get_or-map}
use lib.Seq.{get_or-append_seam, get_or_at}
use borrow.Author.Tests.{lt-ltb}
use Rattle.numbers.specs.Lent.{written, stretch, behind}
use Rattle.uplink.specs.Uplink.{payload_start, payload_of}
use Rattle.information_frames.specs.declared.Frame.{Frame}
use Rattle.std.specs.Prelude.{Result, Ok, Err}
use Rattle.refusals.specs.declared.Refusal.{Refusal}
use Rattle.information_frames.specs.Walk.{Frames, listed, payload_frames}
use Rattle.information_frames.specs.Answers.{none, nth_frame, data_start, found_frame, data_in}
use Rattle.information_frames.specs.Contents.{Content, content_of, frames_in, contents, new_frame, new_content}
use Rattle.information_frames.proofs.Laws as frames
use Rattle.uplink_frames.specs.Frames.{message_frames}
use Rattle.generic_text.specs.Product.{Decoded, decode}
use Rattle.generic_text.specs.Answers.{text_reading, ReadText}
use Rattle.generic_text.proofs.Laws.{written_decoded}
use Rattle.uplink_text.specs.Texts.{text_in, message_text}
use Rattle.uplink_text.specs.Claims.{PartRead, AddedRead}

-- the last frame of a list
last : (fs : List Frame) (f : Frame) (end : ℕ) → nth_frame (listed (fs ++ (f ∷ [])) end) (length fs) ≡ Ok f
unfolding nth_frame
last [] f end = refl
last (g ∷ fs) f end = last fs f end

-- what the last frame holds, of a list of contents with one more at its end
held : (p q : List ℕ) (fs : List Frame) (f : Frame) (c : Content) (end end' : ℕ) → payload_frames p ≡ listed fs end → payload_frames q ≡ listed (fs ++ (f ∷ [])) end'
    → contents q ≡ contents p ++ (c ∷ []) → content_of q f ≡ c
unfolding contents
held p q fs f c end end' e g h =
    let n = length fs in
    let frames : frames_in (payload_frames q) ≡ fs ++ (f ∷ []) = ap frames_in g in
    let old : length (contents p) ≡ n = ap (λ (l : Frames). length (map (content_of p) (frames_in l))) e ∙ length-map fs (content_of p) in
    sym (ap (content_of q) (get_or-append_seam fs f [] none))
    ∙ sym (get_or-map (content_of q) (fs ++ (f ∷ [])) n none)
    ∙ ap (λ (l : List Content). get_or l n (content_of q none)) (ap (map (content_of q)) (sym frames) ∙ h)
    ∙ get_or_at (contents p) c [] (content_of q none) n old

pub added_read : AddedRead
unfolding content_of
added_read t out left p q n fs end w e a =
    let l = frames.added_listed p q 0 (take n left) fs end e a in
    let f = new_frame end 0 (take n left) in
    let next = end + (length (take n left) + 2) in
    let there : nth_frame (payload_frames q) (length fs) ≡ Ok f = ap (λ (x : Frames). nth_frame x (length fs)) l.0 ∙ last fs f next in
    let bytes : data_in q f ≡ take n left = ap (λ (c : Content). c.bytes) (held p q fs f (new_content 0 (take n left)) end next e l.0 l.1) in
    (there, ap (text_in q) there ∙ ap decode bytes ∙ written_decoded t out left n w)

pub part_read : PartRead
unfolding message_text data_in
part_read m part out left n at place f answer e d r =
    let holds : part ≡ data_in (payload_of m) f = d.holds ∙ ap (λ (x : Result Frame Refusal). stretch (data_start x) (found_frame x).length (payload_of m)) e in
    let text : decode part ≡ message_text m n = ap decode holds ∙ sym (ap (text_in (payload_of m)) e) in
    (d.stands ∙ ap (λ (x : Result Frame Refusal). behind (data_start x) (behind (payload_start m) at)) e, subst (λ (x : Decoded). ReadText x out answer left) text r)

pub refused_frame : (m out : List ℕ) (n : ℕ) (k : Refusal) → nth_frame (message_frames m) n ≡ Err k → ReadText (message_text m n) out (Err k) out
unfolding message_text text_reading written
refused_frame m out n k e = record { answers = sym (ap (λ (x : Result Frame Refusal). text_reading (text_in (payload_of m) x) (length out)) e); leaves = refl }
