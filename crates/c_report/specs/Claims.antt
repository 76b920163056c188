-- A report as a struct of numbers and back is that report: what was read can be written again.
-- Assumes nothing.
use Rattle.std.specs.Prelude.{◌≡◌}
use Rattle.message_types.specs.declared.Report.{Report}
use Rattle.c_report.specs.Flat.{flat_report, report_from}

abbrev pub ReportThereAndBack : Type 0
ReportThereAndBack = (x : Report) → report_from (flat_report x) ≡ x
