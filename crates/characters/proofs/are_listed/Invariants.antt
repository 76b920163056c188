-- The loop's invariant in `characters::are_listed`: what was seen and what is left decide.
-- Assumes nothing.
use Rattle.std.proofs.Common.{◌≡◌, ◌&&◌, drop}
use Rattle.characters.specs.Characters.{are_listed}
use Rattle.characters.proofs.are_listed.Given as goal

abbrev pub invariant-loop-byte : goal.invariant-loop-byte
invariant-loop-byte l = (l.all && are_listed (drop l.byte-index l.text)) ≡ are_listed l.text
