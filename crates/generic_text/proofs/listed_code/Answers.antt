-- `generic_text::listed_code` meets its contract: its tests agree with the list at each byte that the list has.
-- Assumes nothing.
use borrow.Author.Tests.{ne_eqb, eq-eqb, le-leb, lt-leb}
use Rattle.characters.proofs.Inverse.{listed_rule}
use Rattle.generic_text.proofs.listed_code.Goals as goal

pub returns-then-byte-ge32 : goal.returns-then-byte-ge32
returns-then-byte-ge32 c = simp (le-leb 32 c.args.byte c.if-byte-ge32.true) at (listed_rule c.args.byte c.ranges.byte.fits c.requires)

pub returns-then-byte-eq10 : goal.returns-then-byte-eq10
returns-then-byte-eq10 c =
    simp (lt-leb 32 c.args.byte c.if-byte-ge32.false, eq-eqb c.args.byte 0x0A c.if-byte-eq10.true) at (listed_rule c.args.byte c.ranges.byte.fits c.requires)

pub returns : goal.returns
returns c =
    simp (lt-leb 32 c.args.byte c.if-byte-ge32.false, ne_eqb c.args.byte 0x0A c.if-byte-eq10.false) at (listed_rule c.args.byte c.ranges.byte.fits c.requires)
