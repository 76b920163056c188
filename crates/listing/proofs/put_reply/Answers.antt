-- `listing::put_reply` meets its contract, by the answer.
-- Assumes nothing.
use Rattle.std.proofs.Common.{rules}
use native.Mathlib.Omega.{arith}
use mathlib.Core.Path.{refl, sym}
use native.Mathlib.Nat.{add-zero}
use Rattle.collecting.specs.Stream.{reply}
use Rattle.listing.specs.Listing.{reply_line}
use Rattle.listing.proofs.Rows.{ranged, position_most, accepted_line}
use Rattle.listing.proofs.put_reply.Goals as goal

pub read_number-requires : goal.read_number-requires
read_number-requires c =
    omega (arith, ranged _ _ c.in-Accepted.is c.requires.0)

pub put_line-requires : goal.put_line-requires
put_line-requires c =
    let p = c.requires in
    let k = ranged _ _ c.in-Accepted.is p.0 in
    (p.1, (search rules, omega arith, tt))

pub put_line-requires-in-Refused : goal.put_line-requires-in-Refused
put_line-requires-in-Refused c =
    let p = c.requires in
    let k = position_most _ _ _ c.in-Refused.is p.0 in
    (p.1, (tt, tt, omega arith))

pub returns-in-None : goal.returns-in-None
unfolding reply reply_line
returns-in-None c = record { stored = rw c.in-None.is (record { ends = sym (add-zero _); leaves = refl }); upper_bound = omega arith }

pub returns-in-Accepted : goal.returns-in-Accepted
returns-in-Accepted c =
    let g = c.put_line in
    let n = c.read_number in
    let k = ranged _ _ c.in-Accepted.is c.requires.0 in
    let line = accepted_line c.args.l.lister c.args.answer c.args.message.now c.in-Accepted.k c.in-Accepted.is k.0 (omega arith) in
    record { stored = rw (← line, ← n.ensures) g.ensures.stored; upper_bound = g.ensures.upper_bound }

pub returns-in-Refused : goal.returns-in-Refused
unfolding reply reply_line
returns-in-Refused c =
    let g = c.put_line-in-Refused in
    record { stored = rw c.in-Refused.is g.ensures.stored; upper_bound = g.ensures.upper_bound }
