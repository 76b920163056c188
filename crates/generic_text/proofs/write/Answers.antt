-- `generic_text::write` meets its contract, one law for each way that it ends.
-- Assumes nothing.
use mathlib.Core.Path.{sym, ◌∙◌}
use native.Mathlib.Omega.{arith}
use Rattle.numbers.proofs.Storing.{then}
use Rattle.generic_text.proofs.Putting.{packed-length}
use Rattle.generic_text.proofs.Answering.{encode-length, write_wide, write_lacking, write_full, write_done}
use Rattle.generic_text.proofs.write.Goals as goal

pub returns-then-not-is_fit : goal.returns-then-not-is_fit
returns-then-not-is_fit c = write_wide _ _ _ _ _ (sym c.is_fit.ensures ∙ c.if-not-is_fit.true)

pub returns-then-not-are_listed : goal.returns-then-not-are_listed
returns-then-not-are_listed c = write_lacking _ _ _ _ _ (sym c.is_fit.ensures ∙ c.if-not-is_fit.false) (sym c.are_listed.ensures ∙ c.if-not-are_listed.true)

pub returns-then-out-codes : goal.returns-then-out-codes
returns-then-out-codes c = write_full _ _ _ _ _ (sym c.is_fit.ensures ∙ c.if-not-is_fit.false) (sym c.are_listed.ensures ∙ c.if-not-are_listed.false) c.if-out-codes.true

pub put_codes-requires : goal.put_codes-requires
put_codes-requires c = (
  omega (arith, packed-length c.args.text.now, c.if-out-codes.false, c.put_header.auto.out),
  sym c.are_listed.ensures ∙ c.if-not-are_listed.false,
)

pub returns : goal.returns
returns c =
    write_done _ _ _ _ _ (sym c.is_fit.ensures ∙ c.if-not-is_fit.false) (sym c.are_listed.ensures ∙ c.if-not-are_listed.false) _ _
    (omega (arith, encode-length c.args.hours c.args.minutes c.args.padding c.args.text.now c.args.out.now, c.if-out-codes.false))
    (then c.put_header.ensures c.put_codes.ensures)
