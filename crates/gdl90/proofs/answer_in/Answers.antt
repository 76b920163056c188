-- `gdl90::answer_in` meets its contract.
-- Assumes nothing.
use borrow.Author.Tests.{eq-eqb, ne_eqb}
use Rattle.gdl90.specs.Collecting.{answer_in}
use Rattle.gdl90.proofs.answer_in.Goals as goal

pub returns-then-fed-eq0 : goal.returns-then-fed-eq0
unfolding answer_in
returns-then-fed-eq0 c = simp (c.if-fed.true, eq-eqb _ 0 c.if-fed-eq0.true)

pub returns-then-fed : goal.returns-then-fed
unfolding answer_in
returns-then-fed c = simp (c.if-fed.true, ne_eqb _ 0 c.if-fed-eq0.false)

pub returns : goal.returns
unfolding answer_in
returns c = simp c.if-fed.false
