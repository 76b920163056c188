-- `generic_text::six_bits::character` meets its contract: the list in the code is that of the definitions.
-- Assumes nothing.
use mathlib.Core.Path.{ap}
use mathlib.Core.List.{List}
use Prim.Native.Nat.{ℕ}
use lib.ListN.{get_or}
use Rattle.characters.specs.Characters.{character_of}
use Rattle.generic_text.proofs.six_bits.character.Goals as goal

pub returns : goal.returns
unfolding character_of
returns c = ap (λ (l : List ℕ). get_or l c.args.code 0) c.requires.0
