-- `collecting::plain` meets its contract. The loop's invariant: so many are stored.
-- Assumes nothing.
use native.Mathlib.Omega.{arith}
use lib.ListN.{length-take}
use lib.Seq.{get_or-take}
use Rattle.collecting.proofs.Filling.{plain_none, plain_one}
use Rattle.collecting.proofs.plain.Goals as goal

pub loop-i-init : goal.loop-i-init
loop-i-init c = plain_none

pub loop-i-preserved : goal.loop-i-preserved
loop-i-preserved c =
    let a = c.args in
    let i = c.loop-i.i in
    let count = length-take c.min-end.result a.bytes.now in
    let same = get_or-take c.min-end.result a.bytes.now i 0 (omega (arith, count)) in
    rw same (plain_one c.loop-i.invariant (omega (arith, count)) (omega (arith, count)) (omega (arith, count)) (omega (arith, same)) (omega (arith, same)))
