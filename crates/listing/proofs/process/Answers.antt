-- `listing::process` meets its contract. The loop's invariant is `Running`, within the bytes up to the limit.
-- Assumes nothing.
use native.Mathlib.Omega.{arith}
use Prim.Native.Nat.{◌-◌}
use lib.ListN.{drop, length-take}
use Rattle.listing.specs.Listing.{state}
use Rattle.listing.proofs.Steps.{running_start, running_stop, running_more, taken_room}
use Rattle.listing.proofs.Passing.{pass_running, running_taken, taken_stop}
use Rattle.listing.proofs.process.Goals as goal

pub loop-out-init : goal.loop-out-init
loop-out-init c =
    (omega arith, running_start (state c.settled-l.result.lister c.settled-l.new.room) c.args.bytes.now c.args.out.now c.settled-l.result.sane)

pub pass-p-requires : goal.pass-p-requires
pass-p-requires c =
    let z = c.args in
    omega (arith, running_taken c.loop-out.invariant.1, length-take (c.up_to_limit-end.result - c.loop-out.i) (drop c.loop-out.i z.bytes.now))

pub overflow_add-i : goal.overflow_add-i
overflow_add-i c =
    let l = c.loop-out in
    omega (arith, pass_running _ _ l.invariant.1 c.loop-out-test.true l.invariant.0 c.settled-l.result.sane.few c.up_to_limit-end.ensures c.pass-p.ensures.taken_value c.pass-p.ensures.room_after)

pub returns-then-end-i : goal.returns-then-end-i
returns-then-end-i c =
    let l = c.loop-out in
    let w = (pass_running _ _ l.invariant.1 c.loop-out-test.true l.invariant.0 c.settled-l.result.sane.few c.up_to_limit-end.ensures c.pass-p.ensures.taken_value c.pass-p.ensures.room_after).1 in
    running_stop c.settled-l.ensures w (taken_stop w _ (omega arith))

pub advance-a-requires : goal.advance-a-requires
advance-a-requires c =
    let l = c.loop-out in
    let w = (pass_running _ _ l.invariant.1 c.loop-out-test.true l.invariant.0 c.settled-l.result.sane.few c.up_to_limit-end.ensures c.pass-p.ensures.taken_value c.pass-p.ensures.room_after).1 in
    (omega (arith, running_taken w), omega arith)

pub loop-out-preserved : goal.loop-out-preserved
loop-out-preserved c =
    let g = c.advance-a in
    let l = c.loop-out in
    let w = (pass_running _ _ l.invariant.1 c.loop-out-test.true l.invariant.0 c.settled-l.result.sane.few c.up_to_limit-end.ensures c.pass-p.ensures.taken_value c.pass-p.ensures.room_after).1 in
    (omega arith, running_more w (omega arith) (omega (arith, running_taken w)) (omega (arith, w.same)) g.ensures.room_after g.ensures.stored g.ensures.end_bound)

pub returns : goal.returns
returns c =
    running_stop c.settled-l.ensures c.loop-out.invariant.1 (taken_room _ _ _ (omega (arith, c.loop-out-test.false, c.loop-out.invariant.1.same)))
