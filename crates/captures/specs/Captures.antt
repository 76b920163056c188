-- How files of packet captures begin (RULES 'Notes').
-- Assumes nothing.
use Rattle.std.specs.Prelude.{ℕ, ◌+◌, ◌*◌, Bool, cond, ◌||◌, List, [], ◌∷◌, eqb, ltb}

-- before the first byte
abbrev pub start : ℕ
start = 1

-- the smallest number of four bytes: that of fewer is below it
abbrev pub least : ℕ
least = 0x100000000

-- a 1 and then the first four bytes, high first, as one number: from that of the bytes so far, with these behind them
unfoldable pub begun : ℕ → List ℕ → ℕ
begun n [] = n
begun n (b ∷ bs) = cond (ltb n least) (begun (n * 256 + b) bs) n

-- that number, of four bytes
abbrev pub four : ℕ → ℕ → ℕ → ℕ → ℕ
four a b c d = least + a * 0x1000000 + b * 0x10000 + c * 0x100 + d

-- pcap, in either order of bytes, with times in microseconds or in nanoseconds; pcapng
abbrev pub is_capture : ℕ → Bool
is_capture n =
    (eqb n (four 0xA1 0xB2 0xC3 0xD4) || eqb n (four 0xD4 0xC3 0xB2 0xA1))
    || ((eqb n (four 0xA1 0xB2 0x3C 0x4D) || eqb n (four 0x4D 0x3C 0xB2 0xA1)) || eqb n (four 0x0A 0x0D 0x0D 0x0A))
