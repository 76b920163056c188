-- `framing::Writer::put_stuffed` meets its contract.
-- Assumes nothing.
use Rattle.std.proofs.Common.{rules, ap, ◌+◌, length, drop, get_or, length-append, arith}
use Rattle.numbers.proofs.Storing.{rest_more, rest_none, rest_size, stored-length}
use Rattle.framing.specs.Stuffing.{escape, stuff}
use Rattle.framing.proofs.Escaping.{one_less, none_left}
use Rattle.framing.proofs.Writer.put_stuffed.Goals as goal

pub put_escaped-requires : goal.put_escaped-requires
put_escaped-requires c =
    let l = c.loop-b in
    let bytes = c.args.bytes.now in
    omega (
      arith,
      rest_size l.invariant.rest,
      ap length (one_less bytes l.b-index (omega arith)),
      length-append (escape (get_or bytes l.b-index 0)) (stuff (drop (l.b-index + 1) bytes)),
    )

pub loop-b-preserved : goal.loop-b-preserved
loop-b-preserved c =
    let l = c.loop-b in
    record {
      same = search rules;
      length = omega (arith, stored-length c.put_escaped.ensures.stored);
      rest = rest_more c.put_escaped.ensures.stored (rw (one_less c.args.bytes.now l.b-index (omega arith)) at l.invariant.rest);
    }

pub returns-clause-stored : goal.returns-clause-stored
returns-clause-stored c =
    let l = c.loop-b in
    rest_none (rw (none_left c.args.bytes.now l.b-index (omega arith)) at l.invariant.rest)
