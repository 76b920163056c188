-- `collecting::fill` meets its contract. The loop's invariant: the bytes passed are taken.
-- Assumes nothing.
use native.Mathlib.Omega.{arith}
use Rattle.collecting.proofs.Filling.{unflagged_end, unflagged_flag, unflagged_more, unflagged_most, passed_none, rest, passed_part, passed_all}
use Rattle.collecting.proofs.fill.Goals as goal

pub returns-then-bytes-n-eq126 : goal.returns-then-bytes-n-eq126
returns-then-bytes-n-eq126 c =
    let l = c.loop-n in
    record { taken_value = passed_all l.invariant (unflagged_flag _ l.n (omega arith) c.if-bytes-n-eq126.true); room_after = l.invariant.state }

pub through_stretch-s-requires : goal.through_stretch-s-requires
through_stretch-s-requires c =
    let bs = c.args.bytes.now in
    rw (rest bs c.loop-n.n) (omega (arith, unflagged_more bs c.loop-n.n (omega arith) c.if-bytes-n-eq126.false))

pub overflow_add-n : goal.overflow_add-n
overflow_add-n c =
    omega (arith, (passed_part c.loop-n.invariant c.through_stretch-s.ensures.passed), unflagged_most c.args.bytes.now)

pub loop-n-preserved : goal.loop-n-preserved
loop-n-preserved c = passed_part c.loop-n.invariant c.through_stretch-s.ensures.passed

pub returns : goal.returns
returns c =
    let l = c.loop-n in
    record { taken_value = passed_all l.invariant (unflagged_end _ l.n (omega arith)); room_after = l.invariant.state }

pub loop-n-init : goal.loop-n-init
loop-n-init c = passed_none
