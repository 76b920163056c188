-- `listing::start` meets its contract.
-- Assumes nothing.
use mathlib.Core.Path.{ap}
use lib.ListN.{replicate}
use Rattle.listing.specs.declared.Lister.{Lister}
use Rattle.listing.specs.Listing.{state, start}
use Rattle.listing.proofs.start.Goals as goal

pub returns : goal.returns
unfolding start
returns c = ap (λ (l : Lister). state l (replicate 438 0)) c.opening.ensures
