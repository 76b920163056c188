-- `information_frames::scan` meets its contract.
-- Assumes nothing.
use native.Mathlib.Omega.{arith}
use Rattle.information_frames.proofs.Scanning.{not_432, not_valid, start, at_end, runs_past, goes_on, at_the_end}
use Rattle.information_frames.proofs.scan.Goals as goal
use Rattle.information_frames.proofs.scan.Goals.{then-list-n, else-list-n}

pub returns-then-payload-ne432 : goal.returns-then-payload-ne432
returns-then-payload-ne432 c = not_432 _ _ c.if-payload-ne432.true

pub returns-then-payload-ne1 : goal.returns-then-payload-ne1
returns-then-payload-ne1 c = not_valid _ _ (omega arith) (λ e. omega arith)

pub loop-list-init : goal.loop-list-init
loop-list-init c = start _ _ (omega arith) (omega arith)

pub returns-then-at-size : goal.returns-then-at-size
returns-then-at-size c = runs_past _ _ c.loop-list.invariant c.loop-list-test.true c.header-f.result c.header-f.ensures c.if-size-eq0.false (omega arith)

pub loop-list-preserved : goal.loop-list-preserved
loop-list-preserved c =
    let go = goes_on _ _ c.loop-list.invariant c.loop-list-test.true c.header-f.result c.header-f.ensures c.if-size-eq0.false (omega arith) in
    elim c.if-list-n.branch [
      | then-list-n w ↦ go _ (λ e. w.frame-is) (λ e. absurd (omega arith))
      | else-list-n w ↦ go _ (λ e. absurd (omega arith)) (λ e. w.frame-is)
    ]

pub returns-after-loop-list : goal.returns-after-loop-list
returns-after-loop-list c = at_the_end _ _ c.loop-list.invariant (omega arith)

pub returns-then-size-eq0 : goal.returns-then-size-eq0
returns-then-size-eq0 c = at_end _ _ c.loop-list.invariant c.loop-list-test.true c.header-f.result c.header-f.ensures c.if-size-eq0.true
