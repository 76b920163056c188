-- `recording::unescape` meets its contract, by the byte and the one behind it.
-- Assumes nothing.
use native.Mathlib.Omega.{arith}
use Rattle.numbers.specs.Bits.{◌⊕◌}
use Rattle.recording.proofs.Unescaping.{plain, cut_off, escaped, bad_escape}
use Rattle.recording.proofs.unescape.Goals as goal

pub returns-then-byte-ne125 : goal.returns-then-byte-ne125
returns-then-byte-ne125 c = plain c.args.part.now c.args.i c.requires.0 c.requires.1 c.if-byte-ne125.true

pub returns-then-i-part : goal.returns-then-i-part
returns-then-i-part c = cut_off c.args.part.now c.args.i c.requires.0 c.if-byte-ne125.false c.if-i-part.true

pub returns-then-escaped : goal.returns-then-escaped
unfolding ◌⊕◌
returns-then-escaped c =
    escaped c.args.part.now c.args.i c.requires.0 c.if-byte-ne125.false (omega (arith, c.requires.0, c.if-i-part.false)) c.if-escaped.true

pub returns : goal.returns
returns c =
    bad_escape c.args.part.now c.args.i c.requires.0 c.if-byte-ne125.false (omega (arith, c.requires.0, c.if-i-part.false)) c.if-escaped.false
