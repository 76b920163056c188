-- `captures::begun` meets its contract.
-- Assumes nothing.
use Rattle.std.proofs.Common.{sym, ◌∙◌, arith}
use Rattle.captures.proofs.Telling.{full, next, none_left}
use Rattle.captures.proofs.begun.Goals as goal

pub returns-then-n-ge-LEAST : goal.returns-then-n-ge-LEAST
returns-then-n-ge-LEAST c =
    let l = c.loop-byte in
    sym (full l.n _ (omega arith)) ∙ l.invariant

pub loop-byte-preserved : goal.loop-byte-preserved
loop-byte-preserved c =
    let l = c.loop-byte in
    rw c.from.ensures (sym (next l.n c.args.bytes.now l.byte-index (omega arith) (omega arith)) ∙ l.invariant)

pub returns : goal.returns
returns c =
    let l = c.loop-byte in
    sym (none_left l.n c.args.bytes.now l.byte-index (omega arith)) ∙ l.invariant
