-- `generic_text::six_bits::Codes::next_code` meets its contract.
-- Assumes nothing.
use mathlib.Core.Path.{ap, ◌∙◌}
use native.Mathlib.Omega.{arith}
use Rattle.std.proofs.lemmas.List.{nil_from_length}
use Rattle.std.proofs.lemmas.Slice.{first_rest}
use Rattle.generic_text.specs.Codes.{codes_of}
use Rattle.generic_text.proofs.Walking.{six_left, byte_more, at_end}
use Rattle.generic_text.proofs.six_bits.Codes.next_code.Goals as goal

pub returns-then-self-ge6 : goal.returns-then-self-ge6
returns-then-self-ge6 c = (six_left _ _ _ (omega (arith, c.args.self.few)), omega arith)

pub returns-in_default : goal.returns-in_default
returns-in_default c =
    let s = c.args.self in
    ap (codes_of s.width s.last) (nil_from_length s.rest.now (omega arith)) ∙ at_end s.last s.width s.even s.few (λ e. omega arith)

pub returns : goal.returns
returns c =
    let s = c.args.self in (
      ap (codes_of s.width s.last) (first_rest s.rest.now 0 (omega arith)) ∙ byte_more s.last s.width s.even s.few (λ e. omega arith) _ _ (omega arith),
      omega arith,
    )
