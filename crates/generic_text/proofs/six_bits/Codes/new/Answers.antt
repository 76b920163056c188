-- `generic_text::six_bits::Codes::new` meets its contract: no bits are left over.
-- Assumes nothing.
use mathlib.Core.Path.{refl}
use Rattle.numbers.specs.Packing.{bits_of}
use Rattle.generic_text.specs.Codes.{codes_of}
use Rattle.generic_text.proofs.six_bits.Codes.new.Goals as goal

pub returns : goal.returns
unfolding codes_of bits_of
returns c = refl
