-- `listing::put_decimal` meets its contract. The loop's invariant: with the digits of the rest in front of those written, all are.
-- Assumes nothing.
use mathlib.Core.Path.{◌≡◌}
use Prim.Native.Nat.{◌+◌, ◌<◌}
use lib.ListN.{length}
use lib.Seq.{sets}
use Rattle.listing.specs.Line.{decimal}
use Rattle.listing.proofs.put_decimal.Given as goal

abbrev pub invariant-loop-rest : goal.invariant-loop-rest
invariant-loop-rest l =
    (l.p < l.end) × (l.p + 1 ≡ l.at + length (decimal l.rest)) × (length l.out ≡ length l.initial.out) × (sets l.out l.at (decimal l.rest) ≡ sets l.initial.out l.at (decimal l.n))

abbrev pub decreases-loop-rest : goal.decreases-loop-rest
decreases-loop-rest l = l.rest
