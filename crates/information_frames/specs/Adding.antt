-- Adding an information frame to an uplink payload (RULES 'Adding a frame').
-- Assumes nothing.
use Rattle.std.specs.Prelude.{◌≡◌, ℕ, ◌+◌, ◌-◌, Bool, cond, ◌&&◌, Result, Ok, Err, List, ◌++◌, leb, ltb, length, get_or, take, set, replicate}
use Rattle.refusals.specs.declared.Refusal.{Refusal}
use Rattle.refusals.specs.declared.Refusal.TheVariants.{BadField, NoRoom}
use Rattle.refusals.specs.Numbers.{refusal_number}
use Rattle.information_frames.specs.Frames.{frame_bytes, with_valid_bit}
use Rattle.information_frames.specs.Walk.{Frames, listed, refused, payload_frames}

-- a type of four bits, and 1 to 422 bytes of data
abbrev pub is_good : ℕ → ℕ → Bool
is_good kind n = leb kind 15 && leb 1 n && leb n 422

-- the walk's refusals; then `BadField`; then `NoRoom` exactly when the list's end + 2 + length is over 424
unfoldable pub adding : Frames → ℕ → ℕ → Result (Unit {0}) Refusal
adding (listed fs end) kind n = cond (is_good kind n) (cond (ltb 424 (end + 2 + n)) (Err NoRoom) (Ok tt)) (Err BadField)
adding (refused k) kind n = Err k

-- the valid bit set, the frame at byte `end` of the application data, and zeros behind it
unfoldable pub with_frame : List ℕ → ℕ → ℕ → List ℕ → List ℕ
with_frame p end kind xs =
    take (end + 8) (set p 6 (with_valid_bit (get_or p 6 0))) ++ (frame_bytes kind xs ++ replicate (424 - (end + 2 + length xs)) 0)

abbrev pub end_of : Frames → ℕ
end_of (listed fs end) = end
end_of (refused k) = 0

-- the payload that is left for each case
abbrev pub payload_after : Result (Unit {0}) Refusal → List ℕ → ℕ → List ℕ → List ℕ
payload_after (Ok done) p kind xs = with_frame p (end_of (payload_frames p)) kind xs
payload_after (Err k) p kind xs = p

pub record Adds (p : List ℕ) (kind : ℕ) (xs : List ℕ) (answer : Result (Unit {0}) Refusal) (left : List ℕ) : Type 0 where
  pub answers : answer ≡ adding (payload_frames p) kind (length xs)
  pub leaves : left ≡ payload_after answer p kind xs
