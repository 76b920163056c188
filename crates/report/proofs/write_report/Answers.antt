-- `report::write_report` meets its contract, by the test.
-- Assumes nothing.
use mathlib.Core.Path.{ap, ◌∙◌}
use Rattle.codec.proofs.Outcomes.{wrote, refused}
use Rattle.report.specs.Bytes.{packed, report_bytes}
use Rattle.report.proofs.write_report.Goals as goal
use Rattle.report.proofs.write_report.Goals.{then-not-is_report_id-via-then-not-is_report_id, then-not-is_report_id-via-else-not-is_report_id+then-not-is_good_report}

pub returns-then-not-is_report_id : goal.returns-then-not-is_report_id
returns-then-not-is_report_id c =
    elim c.then-not-is_report_id.branch [
      | then-not-is_report_id-via-then-not-is_report_id w ↦ refused _ _ _ (simp (← c.is_report_id.ensures, w.if-not-is_report_id.true))
      | then-not-is_report_id-via-else-not-is_report_id+then-not-is_good_report w ↦ refused _ _ _ (simp (← c.is_report_id.ensures, w.if-not-is_report_id.false, ← w.is_good_report.ensures, w.if-not-is_good_report.true))
    ]

pub returns : goal.returns
unfolding report_bytes
returns c =
    let a = c.args in
    wrote
    (simp (← c.is_report_id.ensures, c.if-not-is_report_id.false, ← c.is_good_report.ensures, c.if-not-is_good_report.false))
    (c.packed_report-bytes.ensures ∙ ap (packed a.id a.report) c.codes_of-codes.ensures)
    c.put.ensures
