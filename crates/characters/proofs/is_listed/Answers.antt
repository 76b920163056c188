-- `characters::is_listed` meets its contract: its tests agree with the list at each byte.
-- Assumes nothing.
use Rattle.characters.proofs.Inverse.{listed_test}
use Rattle.characters.proofs.is_listed.Goals as goal

pub returns : goal.returns
returns c = listed_test c.args.byte c.ranges.byte.fits
