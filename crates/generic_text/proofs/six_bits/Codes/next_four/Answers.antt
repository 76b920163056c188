-- `generic_text::six_bits::Codes::next_four` meets its contract.
-- Assumes nothing.
use mathlib.Core.Path.{refl}
use native.Mathlib.Omega.{arith}
use Rattle.generic_text.proofs.Walking.{four_more}
use Rattle.generic_text.proofs.six_bits.Codes.next_four.Goals as goal

pub returns : goal.returns
returns c = (
  four_more c.args.self.rest.now c.in-len3-up.len_at_least (omega arith) (omega arith) (omega arith) _ refl
      _ _ _ _ _ _ _ c.if-self-ne0.false c.new.ensures c.character-w.ensures c.character-x.ensures c.character-y.ensures c.character-z.ensures
      (omega arith, omega arith, omega arith, omega arith),
  refl,
)
