-- `listing::put_field` meets its contract: the digits and the byte behind them, or the dash and that byte.
-- Assumes nothing.
use native.Mathlib.Omega.{arith}
use Rattle.listing.proofs.Texts.{decimal-length}
use Rattle.listing.proofs.Rows.{digits_then, dash_then}
use Rattle.listing.proofs.put_field.Goals as goal

pub put_decimal-end-requires : goal.put_decimal-end-requires
put_decimal-end-requires c = omega (arith, decimal-length 9 c.in-Some.n (rw c.in-Some.is at c.requires.0))

pub bounds-out-end : goal.bounds-out-end
bounds-out-end c =
    let g = c.put_decimal-end in
    omega (arith, decimal-length 9 c.in-Some.n (rw c.in-Some.is at c.requires.0), g.ensures.ends, g.auto.out)

pub overflow_add-result : goal.overflow_add-result
overflow_add-result c =
    let g = c.put_decimal-end in
    omega (arith, decimal-length 9 c.in-Some.n (rw c.in-Some.is at c.requires.0), g.ensures.ends)

pub returns-in-Some : goal.returns-in-Some
returns-in-Some c =
    let n = c.in-Some.n in
    let g = c.put_decimal-end in
    record { stored = rw c.in-Some.is (digits_then n c.args.behind g.ensures); upper_bound = omega (arith, decimal-length 9 n (rw c.in-Some.is at c.requires.0), g.ensures.ends) }

pub returns-in-None : goal.returns-in-None
returns-in-None c =
    let a = c.args in
    record { stored = rw c.in-None.is (dash_then a.out.now a.at a.behind); upper_bound = omega arith }
