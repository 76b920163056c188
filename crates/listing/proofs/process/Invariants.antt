-- `listing::process` meets its contract. The loop's invariant is `Running`, within the bytes up to the limit.
-- Assumes nothing.
use Prim.Native.Nat.{◌-◌, ◌≤◌}
use lib.ListN.{length}
use Rattle.listing.specs.Listing.{state}
use Rattle.listing.proofs.Steps.{Running}
use Rattle.listing.proofs.process.Given as goal

abbrev pub invariant-loop-out : goal.invariant-loop-out
invariant-loop-out l = (l.i ≤ l.end) × Running (state l.initial.l.lister l.initial.room) l.bytes l.initial.out l.out (state l.l.lister l.room) l.i l.at

abbrev pub decreases-loop-out : goal.decreases-loop-out
decreases-loop-out l = length l.bytes - l.i
