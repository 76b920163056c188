-- `listing::put_decimal` meets its contract. The loop's invariant: with the digits of the rest in front of those written, all are.
-- Assumes nothing.
use native.Mathlib.Omega.{arith}
use mathlib.Core.Path.{◌≡◌, refl, ◌∙◌}
use Prim.Native.Nat.{◌/◌}
use lib.ListN.{length-set}
use Rattle.listing.proofs.Texts.{decimal_small, length_small, length_large, length_some, last_first}
use Rattle.listing.proofs.put_decimal.Goals as goal

pub overflow_sub-p : goal.overflow_sub-p
overflow_sub-p c = omega (arith, length_some c.args.n)

pub loop-rest-init : goal.loop-rest-init
loop-rest-init c =
    let some = length_some c.args.n in
    (omega arith, omega arith, refl, refl)

pub overflow_sub-p-in-loop-rest : goal.overflow_sub-p-in-loop-rest
overflow_sub-p-in-loop-rest c = omega (arith, length_large c.loop-rest.rest c.loop-rest-test.true, length_some (c.loop-rest.rest / 10))

pub loop-rest-preserved : goal.loop-rest-preserved
loop-rest-preserved c =
    let long = length_large c.loop-rest.rest c.loop-rest-test.true in
    let some = length_some (c.loop-rest.rest / 10) in (
      omega arith,
      omega arith,
      simp length-set c.loop-rest.invariant.2,
      last_first c.loop-rest.out c.args.at c.loop-rest.rest c.loop-rest.p c.loop-rest-test.true c.loop-rest.invariant.1 ∙ c.loop-rest.invariant.3,
    )

pub returns : goal.returns
returns c =
    let place : c.loop-rest.p ≡ c.args.at = omega (arith, length_small c.loop-rest.rest c.loop-rest-test.false) in
    record { ends = omega (arith, c.digit_count.ensures); leaves = rw place (rw (decimal_small c.loop-rest.rest c.loop-rest-test.false) at c.loop-rest.invariant.3) }
