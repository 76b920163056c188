-- `listing::finish` meets its contract: the word, and two fields.
-- Assumes nothing.
use native.Mathlib.Omega.{arith}
use Prim.Native.Nat.{◌-◌}
use Rattle.numbers.specs.Lent.{Stored}
use Rattle.listing.specs.Listing.{ending}
use Rattle.listing.proofs.Rows.{ending_stored}
use Rattle.listing.proofs.finish.Goals as goal

pub returns : goal.returns
returns c =
    let p = c.put_field-p in
    let q = c.put_field in
    let g = c.steady in
    let out = c.args.out.now in
    let line : Stored out 0 (ending g.result.lister) q.result q.new.out = ending_stored c.copy_from_slice.new.self g.result.lister.lead (g.result.lister.taken - g.result.lister.after) c.copy_from_slice.ensures.after (omega arith) p.ensures.stored q.ensures.stored in
    record { stored = rw g.ensures at line; upper_bound = omega (arith, p.ensures.upper_bound, q.ensures.upper_bound, p.auto.out, q.auto.out) }
