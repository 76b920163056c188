-- `information_frames::add` meets its contract, one law for each way that it ends.
-- Assumes nothing.
use mathlib.Core.Path.{sym, ◌∙◌}
use native.Mathlib.Omega.{arith}
use lib.ListN.{length}
use Rattle.std.proofs.lemmas.Result.{err_from_is_err_and}
use Rattle.information_frames.proofs.Rows.{counted_is, refused_is}
use Rattle.information_frames.proofs.Putting.{good, add_refused, add_bad, add_full, add_done}
use Rattle.information_frames.proofs.add.Goals as goal

pub returns-in_err-end : goal.returns-in_err-end
returns-in_err-end c =
    let p = err_from_is_err_and c.from_residual.result c.from_residual.ensures.1 in
    rw (p.1, p.2) (add_refused _ _ _ _ (refused_is _ c.in_err-end.was c.list.ensures))

pub returns-then-not-is_good : goal.returns-then-not-is_good
returns-then-not-is_good c =
    let l = counted_is _ c.in_ok-end.was c.list.ensures in
    add_bad _ _ _ _ _ l.list (sym c.is_good.ensures ∙ c.if-not-is_good.true)

pub overflow_add-end : goal.overflow_add-end
overflow_add-end c =
    let l = counted_is _ c.in_ok-end.was c.list.ensures in
    omega arith

pub overflow_add-end-2 : goal.overflow_add-end-2
overflow_add-end-2 c =
    let l = counted_is _ c.in_ok-end.was c.list.ensures in
    let g = good c.args.kind (length c.args.bytes.now) (sym c.is_good.ensures ∙ c.if-not-is_good.false) in
    omega arith

pub returns-then-end-n-gt424 : goal.returns-then-end-n-gt424
returns-then-end-n-gt424 c =
    let l = counted_is _ c.in_ok-end.was c.list.ensures in
    add_full _ _ _ _ _ l.list (sym c.is_good.ensures ∙ c.if-not-is_good.false) (omega arith)

pub put-requires : goal.put-requires
put-requires c =
    let l = counted_is _ c.in_ok-end.was c.list.ensures in
    let g = good c.args.kind (length c.args.bytes.now) (sym c.is_good.ensures ∙ c.if-not-is_good.false) in
    (l.size, omega arith, g.0)

pub returns : goal.returns
returns c =
    let l = counted_is _ c.in_ok-end.was c.list.ensures in
    add_done _ _ _ _ _ l.list (sym c.is_good.ensures ∙ c.if-not-is_good.false) (omega arith) _ c.put.ensures
