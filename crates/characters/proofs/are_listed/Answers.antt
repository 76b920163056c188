-- `characters::are_listed` meets its contract.
-- Assumes nothing.
use Rattle.std.proofs.Common.{◌∙◌, arith}
use Rattle.characters.proofs.Listed.{listed_next, listed_all}
use Rattle.characters.proofs.are_listed.Goals as goal

pub loop-byte-preserved : goal.loop-byte-preserved
loop-byte-preserved c =
    let l = c.loop-byte in
    listed_next l.all _ l.byte-index _ (omega arith) c.is_listed-all.ensures ∙ l.invariant

pub returns : goal.returns
returns c = let l = c.loop-byte in listed_all l.all _ l.byte-index (omega arith) ∙ l.invariant
