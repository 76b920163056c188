-- `listing::pass` meets its contract.
-- Assumes nothing.
use native.Mathlib.Omega.{arith}
use Rattle.collecting.proofs.Filling.{unflagged_most}
use Rattle.listing.specs.Listing.{state}
use Rattle.listing.proofs.Passing.{passed_is}
use Rattle.listing.proofs.pass.Goals as goal

pub passed-l-requires : goal.passed-l-requires
passed-l-requires c = omega (arith, unflagged_most c.args.bytes.now)

pub returns : goal.returns
returns c =
    let f = c.fill-filled in
    record { taken_value = f.ensures.taken_value; room_after = passed_is (state c.args.l.lister c.args.room.now) c.args.bytes.now _ _ _ _ c.args.l.sane.lead_few f.ensures.taken_value f.ensures.room_after c.passed-l.ensures }
