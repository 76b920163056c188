-- `codec::put` meets its contract.
-- Assumes nothing.
use native.Mathlib.Omega.{arith}
use Rattle.codec.proofs.Outcomes.{no_room, all_stored}
use Rattle.codec.proofs.put.Goals as goal

pub returns-then-out-bytes : goal.returns-then-out-bytes
returns-then-out-bytes c = no_room _ _ c.if-out-bytes.true

pub returns : goal.returns
returns c =
    let l = c.loop-i in
    all_stored c.args.bytes.now c.args.out.now l.out l.i c.if-out-bytes.false (omega arith) l.invariant
