-- `collecting::collect` meets its contract.
-- Assumes nothing.
use mathlib.Core.Path.{◌∙◌}
use Rattle.collecting.proofs.Cases.{collected_room, collected_full}
use Rattle.collecting.proofs.collect.Goals as goal

pub returns-then-n-lt438 : goal.returns-then-n-lt438
returns-then-n-lt438 c = collected_room c.args.n c.args.at c.args.room.now c.args.byte c.if-n-lt438.true

pub returns : goal.returns
returns c =
    let a = c.args in
    c.clear.ensures ∙ collected_full a.n a.at a.room.now a.byte c.if-n-lt438.false
