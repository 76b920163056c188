-- `framing::frame` meets its contract: four parts, one behind the other.
-- Assumes nothing.
use Rattle.std.proofs.Common.{rules, arith}
use Rattle.std.proofs.lemmas.Bool.Decides.{nat_tests}
use Rattle.numbers.proofs.Storing.{then, stored-length}
use Rattle.framing.specs.Framing.{framing}
use Rattle.framing.proofs.Escaping.{its_size}
use Rattle.framing.proofs.Answering.{done}
use Rattle.framing.proofs.frame.Goals as goal

pub returns-then-out-stuffed_length-clause-answer : goal.returns-then-out-stuffed_length-clause-answer
unfolding framing
returns-then-out-stuffed_length-clause-answer c =
    let size = its_size c.args.message.now c.sequence_bytes-sequence.ensures in
    grind (arith, nat_tests)

pub put_stuffed-requires-2 : goal.put_stuffed-requires-2
put_stuffed-requires-2 c = omega (arith, stored-length c.put.ensures.stored, stored-length c.put_stuffed.ensures.stored)

pub put-requires-2 : goal.put-requires-2
put-requires-2 c =
    omega (arith, stored-length c.put.ensures.stored, stored-length c.put_stuffed.ensures.stored, stored-length c.put_stuffed-2.ensures.stored)

pub returns : goal.returns
returns c =
    let parts = then (then (then c.put.ensures.stored c.put_stuffed.ensures.stored) c.put_stuffed-2.ensures.stored) c.put-2.ensures.stored in
    let d = done c.args.message.now (grind (arith, nat_tests)) (omega arith) (omega arith) c.sequence_bytes-sequence.ensures parts in
    let left = d.1 in
    record { answer = d.0; output = search rules }
