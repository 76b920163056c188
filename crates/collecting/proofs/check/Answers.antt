-- `collecting::check` meets its contract.
-- Assumes nothing.
use mathlib.Core.Path.{refl}
use Rattle.collecting.specs.Step.{shown}
use Rattle.collecting.proofs.Cases.{agrees, differs}
use Rattle.collecting.proofs.check.Goals as goal

pub returns-then-sequence_of-sent : goal.returns-then-sequence_of-sent
unfolding shown
returns-then-sequence_of-sent c =
    let a = c.args in
    (agrees a.k a.at a.room.now _ _ c.sequence_of.ensures c.word-sent.ensures c.if-sequence_of-sent.true, c.show.ensures)

pub returns : goal.returns
unfolding shown
returns c =
    let a = c.args in
    (differs a.k a.at a.room.now _ _ c.sequence_of.ensures c.word-sent.ensures c.if-sequence_of-sent.false, refl)
