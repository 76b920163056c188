-- An information frame's header (001 §4.2), and the valid bit of the payload's header (RULES 'Uplink payloads').
-- Assumes nothing.
use Rattle.std.specs.Prelude.{ℕ, ◌+◌, ◌-◌, ◌*◌, ◌/◌, ◌%◌, List, ◌∷◌, length}
use Rattle.information_frames.specs.declared.Frame.{Frame}

-- nine bits of length: the first byte whole and bit 7 of the next
abbrev pub length_in : ℕ → ℕ → ℕ
length_in a b = a * 2 + b / 128

-- the frame at byte `at` of the application data whose header is the bytes a and b: length, three reserved bits, type in four
abbrev pub headed : ℕ → ℕ → ℕ → Frame
headed at a b = record { at = at; length = length_in a b; reserved = b / 16 % 8; kind = b % 16 }

-- the bytes of a frame with these data, its reserved bits 0
unfoldable pub frame_bytes : ℕ → List ℕ → List ℕ
frame_bytes kind xs = length xs / 2 ∷ (length xs % 2 * 128 + kind) ∷ xs

-- a byte with bit 5 set and its other bits as they were
abbrev pub with_valid_bit : ℕ → ℕ
with_valid_bit b = b + (1 - b / 32 % 2) * 32
