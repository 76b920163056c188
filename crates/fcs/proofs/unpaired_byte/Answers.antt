-- `fcs::unpaired_byte` meets its contract.
-- Assumes nothing.
use Rattle.fcs.proofs.Pairwise.{no_byte, one_byte}
use Rattle.fcs.proofs.unpaired_byte.Goals as goal

pub returns-in-empty : goal.returns-in-empty
returns-in-empty c = no_byte c.args.unpaired.now c.in-empty.len_below

pub returns-in-len1-up : goal.returns-in-len1-up
returns-in-len1-up c = one_byte c.args.unpaired.now c.in-len1-up.len_at_least c.requires (c.type_inv.unpaired 0).fits
