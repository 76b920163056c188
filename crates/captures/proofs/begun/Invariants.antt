-- The loop's invariant in `captures::begun`: the bytes that are left lead to the number of all.
-- Assumes nothing.
use Rattle.std.proofs.Common.{◌≡◌, drop}
use Rattle.captures.specs.Captures.{begun}
use Rattle.captures.proofs.begun.Given as goal

abbrev pub invariant-loop-byte : goal.invariant-loop-byte
invariant-loop-byte l = begun l.n (drop l.byte-index l.bytes) ≡ begun l.before l.bytes
