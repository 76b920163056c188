-- The list of the information frames of an uplink payload (RULES 'Uplink payloads').
-- Assumes nothing.
use Rattle.std.specs.Prelude.{ℕ, zero, suc, ◌/◌, ◌%◌, cond, List, [], ◌∷◌, ◌++◌, eqb, ltb, length, get_or, drop}
use Rattle.refusals.specs.declared.Refusal.{Refusal}
use Rattle.refusals.specs.declared.Refusal.TheVariants.{WrongLength, PastTheEnd}
use Rattle.information_frames.specs.declared.Frame.{Frame}
use Rattle.information_frames.specs.Frames.{length_in, headed}

-- the frames, and the byte of the application data at which their list ends; or a refusal
pub data Frames : Type 0 where
  listed : List Frame → ℕ → Frames
  refused : Refusal → Frames

-- frames before those of a list; one refused frame refuses them all
unfoldable pub frames_before : List Frame → Frames → Frames
frames_before fs (listed gs end) = listed (fs ++ gs) end
frames_before fs (refused k) = refused k

-- the list from byte `at` on, of which the bytes are given and the first `skip` are data of the frame before. Fewer than two bytes
-- left, or length 0, ends it; data of more bytes than are left are refused with `PastTheEnd`
unfoldable pub walk : ℕ → ℕ → List ℕ → Frames
walk at skip [] = listed [] at
walk at (suc skip) (x ∷ xs) = walk (suc at) skip xs
walk at zero (a ∷ []) = listed [] at
walk at zero (a ∷ b ∷ xs) =
    cond (eqb (length_in a b) 0) (listed [] at)
    (cond (ltb (length xs) (length_in a b)) (refused PastTheEnd)
    (frames_before (headed at a b ∷ []) (walk (suc (suc at)) (length_in a b) xs)))

-- bit 5 of the seventh header byte
abbrev pub valid_bit : List ℕ → ℕ
valid_bit p = get_or p 6 0 / 32 % 2

-- the list of a payload: `WrongLength` unless it has 432 bytes; where its data are not valid, an empty list that ends at byte 0
unfoldable pub payload_frames : List ℕ → Frames
payload_frames p = cond (eqb (length p) 432) (cond (eqb (valid_bit p) 1) (walk 0 0 (drop 8 p)) (listed [] 0)) (refused WrongLength)
