-- `collecting::after_escape` meets its contract.
-- Assumes nothing.
use mathlib.Core.Path.{◌∙◌}
use Rattle.numbers.specs.Bits.{◌⊕◌}
use Rattle.collecting.proofs.Cases.{unescaped_good, unescaped_bad}
use Rattle.collecting.proofs.after_escape.Goals as goal

pub returns-then-byte : goal.returns-then-byte
unfolding ◌⊕◌
returns-then-byte c =
    let a = c.args in
    c.collect.ensures ∙ unescaped_good a.n a.at a.room.now a.byte c.if-byte.true

pub returns : goal.returns
returns c =
    let a = c.args in
    c.clear.ensures ∙ unescaped_bad a.n a.at a.room.now a.byte c.if-byte.false
