-- `generic_text::read` meets its contract, one law for each way that it ends.
-- Assumes nothing.
use mathlib.Core.Path.{sym, ◌∙◌}
use native.Mathlib.Omega.{arith}
use Rattle.std.proofs.lemmas.Result.{err_from_is_err_and}
use Rattle.generic_text.proofs.Answering.{read_short, read_other, walked, read_fault, read_long, read_done}
use Rattle.generic_text.proofs.read.Goals as goal

pub returns-then-apdu-lt4 : goal.returns-then-apdu-lt4
returns-then-apdu-lt4 c = read_short _ _ (omega arith)

pub returns-then-not-is_generic_text : goal.returns-then-not-is_generic_text
returns-then-not-is_generic_text c = read_other _ _ (omega arith) (sym c.is_generic_text.ensures ∙ c.if-not-is_generic_text.true)

pub returns-in_err-n : goal.returns-in_err-n
returns-in_err-n c =
    let w = walked c.args.apdu.now _ (omega arith) (sym c.is_generic_text.ensures ∙ c.if-not-is_generic_text.false) c.new-codes.ensures in
    let p = err_from_is_err_and c.from_residual.result c.from_residual.ensures.1 in
    rw (p.1, p.2) (read_fault _ _ _ _ _ _ w (sym c.in_err-n.was ∙ c.measure.ensures))

pub returns-then-out-n : goal.returns-then-out-n
returns-then-out-n c =
    let w = walked c.args.apdu.now _ (omega arith) (sym c.is_generic_text.ensures ∙ c.if-not-is_generic_text.false) c.new-codes.ensures in
    read_long _ _ _ _ _ _ w (sym c.in_ok-n.was ∙ c.measure.ensures) c.if-out-n.true

pub returns : goal.returns
returns c =
    let w = walked c.args.apdu.now _ (omega arith) (sym c.is_generic_text.ensures ∙ c.if-not-is_generic_text.false) c.new-codes.ensures in
    rw c.accepted.ensures (read_done _ _ _ _ _ _ _ w (sym c.in_ok-n.was ∙ c.measure.ensures) c.if-out-n.false c.expand.ensures)
