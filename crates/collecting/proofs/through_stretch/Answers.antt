-- `collecting::through_stretch` meets its contract.
-- Assumes nothing.
use native.Mathlib.Omega.{arith}
use mathlib.Core.Path.{sym, subst}
use Rattle.collecting.specs.declared.Collector.{Collector}
use Rattle.collecting.specs.Stretch.{Within}
use Rattle.collecting.proofs.Ranging.{taken_most}
use Rattle.collecting.proofs.Filling.{unflagged_end, unflagged_flag, passed_one, passed_all, passed_taken}
use Rattle.collecting.proofs.through_stretch.Goals as goal

pub stretch-s-requires : goal.stretch-s-requires
stretch-s-requires c = subst (λ (s : Collector). Within s.control) (sym c.within-usable.ensures) (taken_most _)

pub returns-then-b-ne126 : goal.returns-then-b-ne126
returns-then-b-ne126 c =
    let p = c.stretch-s.ensures in
    record { passed = passed_taken c.within-usable.ensures (omega arith) (passed_one p.passed p.within (omega arith) c.if-b-ne126.true c.inside_frame.ensures); le_taken = omega arith }

pub returns-else-b-ne126 : goal.returns-else-b-ne126
returns-else-b-ne126 c =
    let p = c.stretch-s.ensures.passed in
    let some = passed_all p (unflagged_flag _ c.stretch-s.result.taken (omega arith) c.if-b-ne126.false) in
    record { passed = passed_taken c.within-usable.ensures (omega (arith, some)) p; le_taken = omega (arith, some) }

pub returns-else-k-bytes : goal.returns-else-k-bytes
returns-else-k-bytes c =
    let p = c.stretch-s.ensures.passed in
    let some = passed_all p (unflagged_end _ c.stretch-s.result.taken (omega arith)) in
    record { passed = passed_taken c.within-usable.ensures (omega (arith, some)) p; le_taken = omega (arith, some) }
