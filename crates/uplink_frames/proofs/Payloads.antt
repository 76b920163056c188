-- The frames of a message are those of its payload.
-- Assumes nothing.
use mathlib.Core.Path.{◌≡◌, refl, sym, ap, ◌∙◌}
use Prim.Native.Nat.{ℕ, ◌-◌}
use mathlib.Core.List.{List}
use native.Mathlib.Omega.{arith}
use lib.ListN.{length, take, drop}
use Rattle.std.specs.Prelude.{Result, Ok, Err, is_ok}
use Rattle.numbers.specs.Lent.{stretch, behind}
use Rattle.refusals.specs.declared.Refusal.{Refusal}
use Rattle.message_types.specs.declared.Uplink.{Uplink}
use Rattle.uplink.specs.Uplink.{read_uplink, payload_start, payload_of, PayloadPart}
use Rattle.uplink.proofs.Uplinks.{sized}
use Rattle.information_frames.specs.Walk.{refused, payload_frames}
use Rattle.information_frames.specs.Answers.{nth_frame, found_frame, data_start, DataPart}
use Rattle.uplink_frames.specs.Frames.{frames_read, message_frames}

module _ (m : List ℕ) where
  pub turned_away : {k : Refusal} → Err k ≡ read_uplink m → message_frames m ≡ refused k
  unfolding message_frames
  turned_away e = rw (← e)

  pub walked : {u : Uplink} → Ok u ≡ read_uplink m → message_frames m ≡ payload_frames (take (length m - 4) (drop 4 m))
  unfolding message_frames
  walked {u} e =
      let size : length m - 4 ≡ 432 = omega (arith, sized m e) in
      let part : payload_of m ≡ take (length m - 4) (drop 4 m) = rw (← e, size) in
      ap (frames_read m) (sym e) ∙ ap payload_frames part

  -- where the message is refused, so is its payload, which is empty
  same_data : (n : ℕ)
      → (data_start (nth_frame (payload_frames (payload_of m)) n) ≡ data_start (nth_frame (message_frames m) n))
      × ((found_frame (nth_frame (payload_frames (payload_of m)) n)).length ≡ (found_frame (nth_frame (message_frames m) n)).length)
  unfolding message_frames payload_frames nth_frame
  same_data n = go (read_uplink m) refl
    where
      go : (r : Result Uplink Refusal) → read_uplink m ≡ r
          → (data_start (nth_frame (payload_frames (payload_of m)) n) ≡ data_start (nth_frame (frames_read m r) n))
          × ((found_frame (nth_frame (payload_frames (payload_of m)) n)).length ≡ (found_frame (nth_frame (frames_read m r) n)).length)
      go (Ok u) e = (refl, refl)
      go (Err k) e = (rw e, rw e)

  pub part_of_part : (n : ℕ) {p part : List ℕ} {at q place : ℕ × ℕ} → PayloadPart m at p q
      → DataPart (nth_frame (payload_frames p) n) p q part place
      → DataPart (nth_frame (message_frames m) n) (payload_of m) (behind (payload_start m) at) part place
  part_of_part n h d =
      let s = same_data n in
      let e = rw (h.holds, h.stands) at d in
      record { holds = rw (← s.0, ← s.1) e.holds; stands = rw (← s.0) e.stands }
