-- What is proved of reports (RULES 'Reports', 'Messages'), besides that the code reads and writes them.
-- Assumes nothing.
use Rattle.std.specs.Prelude.{◌≡◌, true, ℕ, List, length, get_or}
use Rattle.numbers.specs.Bytes.{AreBytes}
use Rattle.report.specs.Bytes.{report_in, report_bytes}
use Rattle.report.specs.Reading.{good_report}
use Rattle.message_types.specs.declared.Report.{Report}

-- a good report's bytes hold it, with any id
abbrev pub ReportWrittenRead : Type 0
ReportWrittenRead = (id : ℕ) (r : Report) → good_report r ≡ true → report_in (report_bytes id r) ≡ r

-- 28 bytes, good or not, are those of the report in them
abbrev pub ReportReadWritten : Type 0
ReportReadWritten = (id : ℕ) (m : List ℕ) → length m ≡ 28 → AreBytes m → get_or m 0 0 ≡ id → report_bytes id (report_in m) ≡ m
