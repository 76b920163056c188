-- `lister::Run::list_bytes` is safe and ends: each turn but the last takes a byte or more.
-- Assumes nothing.
use Rattle.std.proofs.Common.{length}
use Rattle.lister.proofs.Run.list_bytes.Given as goal

abbrev pub decreases-loop-out : goal.decreases-loop-out
decreases-loop-out g l = length l.rest
