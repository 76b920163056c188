-- `generic_text::six_bits::Codes::next_run` meets its contract.
-- Assumes nothing.
use mathlib.Core.Path.{refl, sym, ◌∙◌}
use native.Mathlib.Omega.{arith}
use Rattle.generic_text.proofs.Walking.{none_left, ended, no_character, character_passes, counted, uncounted}
use Rattle.generic_text.proofs.six_bits.Codes.next_run.Goals as goal

pub returns-in_default : goal.returns-in_default
returns-in_default c = none_left _ c.in_default.ensures

pub returns-then-code-eq0 : goal.returns-then-code-eq0
returns-then-code-eq0 c = ended _ _ _ c.in-Some.ensures.0 c.if-code-eq0.true

pub returns-in-0 : goal.returns-in-0
returns-in-0 c = (no_character _ _ _ c.in-Some.ensures.0 c.if-code-eq0.false c.if-code-eq-TAB.false (sym c.character.ensures ∙ c.in-0.is), refl)

pub returns-in_default-character : goal.returns-in_default-character
returns-in_default-character c = character_passes _ _ _ c.in-Some.ensures.0 _ c.character.ensures (λ e. omega arith)

pub returns-in_default-next_code : goal.returns-in_default-next_code
returns-in_default-next_code c = (uncounted _ _ _ c.in-Some.ensures.0 c.if-code-eq-TAB.true c.in_default-next_code.ensures, refl)

pub returns-then-code-eq-TAB : goal.returns-then-code-eq-TAB
returns-then-code-eq-TAB c = counted _ _ _ c.in-Some.ensures.0 c.if-code-eq-TAB.true _ _ c.in-Some-next_code.ensures.0
