-- `recording::unstuff` meets its contract. The loop's invariant: `Unpacked`.
-- Assumes nothing.
use native.Mathlib.Omega.{arith}
use Rattle.std.proofs.lemmas.Result.{err_from_is_err_and}
use Rattle.recording.proofs.Unescaping.{starts, ended, full, more, finished}
use Rattle.recording.proofs.unstuff.Goals as goal

pub loop-taken-init : goal.loop-taken-init
loop-taken-init c = starts c.args.part.now c.args.room.now c.requires.0 c.requires.1

pub returns-in_err-unescaped : goal.returns-in_err-unescaped
returns-in_err-unescaped c =
    let e = ended c.loop-taken.invariant _ c.in_err-unescaped.ensures in
    let p = err_from_is_err_and c.from_residual.result c.from_residual.ensures.1 in
    rw (p.1, p.2) (record { unstuffs = e.0; output = e.1 })

pub returns-then-count-eq438 : goal.returns-then-count-eq438
returns-then-count-eq438 c =
    let e = full c.loop-taken.invariant _ c.in_ok-unescaped.ensures (omega arith) in record { unstuffs = e.0; output = e.1 }

pub loop-taken-preserved : goal.loop-taken-preserved
loop-taken-preserved c = more c.loop-taken.invariant _ c.in_ok-unescaped.ensures (omega arith)

pub returns : goal.returns
returns c = let e = finished c.loop-taken.invariant (omega arith) in record { unstuffs = e.0; output = e.1 }
