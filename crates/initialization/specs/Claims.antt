-- What is proved of the initialization, besides that the code reads and writes it.
-- Assumes nothing.
use Rattle.std.specs.Prelude.{◌≡◌, true, ℕ, List, length, get_or}
use Rattle.numbers.specs.Bytes.{AreBytes}
use Rattle.message_types.specs.declared.Initialization.{Initialization}
use Rattle.initialization.specs.Initialization.{initialization_in, good_initialization, initialization_bytes}

-- a good value's bytes hold that value
abbrev pub InitializationWrittenRead : Type 0
InitializationWrittenRead =
    (i : Initialization) → good_initialization i ≡ true → initialization_in (initialization_bytes i) ≡ i

-- nothing of a message is lost
abbrev pub InitializationReadWritten : Type 0
InitializationReadWritten =
    (m : List ℕ) → length m ≡ 3 → AreBytes m → get_or m 0 0 ≡ 2 → initialization_bytes (initialization_in m) ≡ m
