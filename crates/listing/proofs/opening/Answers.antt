-- `listing::opening` meets its contract.
-- Assumes nothing.
use Rattle.listing.specs.Listing.{opening}
use Rattle.listing.proofs.opening.Goals as goal

pub returns : goal.returns
unfolding opening
returns c = simp c.fresh-control.ensures
