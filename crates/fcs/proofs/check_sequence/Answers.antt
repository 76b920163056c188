-- `fcs::check_sequence` meets its contract.
-- Assumes nothing.
use Rattle.std.proofs.Common.{sym, ◌∙◌, arith}
use Rattle.fcs.proofs.Pairwise.{begun, one_pair, done}
use Rattle.fcs.proofs.check_sequence.Goals as goal

pub loop-pair-init : goal.loop-pair-init
loop-pair-init c = record { small = omega arith; rest = begun c.args.message.now c.as_rchunks.ensures.front c.unpaired_byte-r.ensures }

pub loop-pair-preserved : goal.loop-pair-preserved
loop-pair-preserved c =
    let l = c.loop-pair in
    record {
      small = omega arith;
      rest = one_pair c.args.message.now c.as_rchunks.ensures.back (λ k. (c.type_inv.message k).fits) l.pair-index (omega arith) l.invariant.small c.with_pair-r.ensures l.invariant.rest;
    }

pub returns : goal.returns
returns c =
    let l = c.loop-pair in
    sym (done c.args.message.now _ l.r (omega arith)) ∙ l.invariant.rest
