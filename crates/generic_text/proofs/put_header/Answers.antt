-- `generic_text::put_header` meets its contract: four bytes stored, one behind the other.
-- Assumes nothing.
use mathlib.Core.Path.{refl}
use Rattle.generic_text.specs.Product.{header_of}
use Rattle.generic_text.proofs.put_header.Goals as goal

pub returns : goal.returns
unfolding header_of
returns c = record { ends = refl; leaves = refl }
