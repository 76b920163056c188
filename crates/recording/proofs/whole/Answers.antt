-- `recording::whole` meets its contract.
-- Assumes nothing.
use Rattle.recording.proofs.Checking.{empty, short, agrees, differs}
use Rattle.recording.proofs.whole.Goals as goal

pub returns-then-n-eq0 : goal.returns-then-n-eq0
returns-then-n-eq0 c = empty c.args.bytes.now c.args.taken c.if-n-eq0.true

pub returns-then-n-lt3 : goal.returns-then-n-lt3
returns-then-n-lt3 c = short c.args.bytes.now c.args.taken c.if-n-eq0.false c.if-n-lt3.true

pub returns-then-check_sequence-sent : goal.returns-then-check_sequence-sent
returns-then-check_sequence-sent c =
    agrees c.args.bytes.now c.args.taken c.if-n-lt3.false _ _ c.check_sequence.ensures c.word-sent.ensures c.if-check_sequence-sent.true

pub returns : goal.returns
returns c =
    differs c.args.bytes.now c.args.taken c.if-n-lt3.false _ _ c.check_sequence.ensures c.word-sent.ensures c.if-check_sequence-sent.false
