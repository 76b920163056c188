-- Laws of the initialization.
-- Assumes nothing.
use mathlib.Core.Path.{refl, sym, ap, ◌∙◌}
use Prim.Native.Nat.{ℕ, suc}
use mathlib.Core.List.{◌∷◌}
use lib.ListN.{get_or}
use Rattle.numbers.proofs.Bytes.{spread, up_to}
use Rattle.initialization.specs.Claims.{InitializationWrittenRead, InitializationReadWritten}

pub written_read : InitializationWrittenRead
written_read i g = refl

pub read_written : InitializationReadWritten
read_written m long bytes id = sym (spread 3 m long ∙ ap (λ (x : ℕ). x ∷ up_to 2 (λ k. get_or m (suc k) 0)) id)
