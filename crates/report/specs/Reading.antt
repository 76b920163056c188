-- Which reports are good, in both directions, and what reading answers (RULES 'Reports').
-- Assumes nothing.
use Rattle.std.specs.Prelude.{ℕ, Bool, ◌&&◌, ◌||◌, List, Option, Result, Ok, Err, is_none, eqb, ltb, leb, ℤ, pos, negsuc}
use Rattle.std.specs.Bool.{beq}
use Rattle.std.specs.Int.Signed.{le_z}
use Rattle.codec.specs.Reading.{reading}
use Rattle.refusals.specs.declared.Refusal.{Refusal}
use Rattle.report.specs.Marks.{place_of, steps_or, knots_or, climb_or}
use Rattle.report.specs.Bytes.{report_in}
use Rattle.message_types.specs.declared.Position.{Position}
use Rattle.message_types.specs.declared.Ownship.{Ownship}
use Rattle.message_types.specs.declared.Report.{Report}
use Rattle.message_types.specs.declared.Traffic.{Traffic}
use Rattle.c_report.specs.declared.FlatReport.{FlatReport}
use Rattle.c_report.specs.Flat.{flat_report}

abbrev pub between : ℤ → ℤ → ℤ → Bool
between low high z = le_z low z && le_z z high

abbrev pub is_zero : ℤ → Bool
is_zero = between (pos 0) (pos 0)

-- the ranges (`negsuc k` is -(k + 1)): latitude from pole to pole, climb from -509 to 509, integrity and accuracy to 11
abbrev pub south_pole : ℤ
south_pole = negsuc 4194303

abbrev pub north_pole : ℤ
north_pole = pos 4194304

abbrev pub lowest_climb : ℤ
lowest_climb = negsuc 508

abbrev pub highest_climb : ℤ
highest_climb = pos 509

abbrev pub last_integrity : ℕ
last_integrity = 11

abbrev pub last_accuracy : ℕ
last_accuracy = 11

-- within its range, and none exactly if latitude, longitude and integrity are all 0
unfoldable pub good_position : Option Position → ℕ → Bool
good_position p integrity =
    between south_pole north_pole (place_of p).latitude
    && between (negsuc 8388607) (pos 8388607) (place_of p).longitude
    && beq (is_none p) (is_zero (place_of p).latitude && is_zero (place_of p).longitude && eqb integrity 0)

-- the fields that are plain numbers
abbrev pub within_bits : Report → Bool
within_bits r =
    leb r.integrity last_integrity
    && leb r.accuracy last_accuracy
    && ltb r.alert 16
    && ltb r.address_type 16
    && ltb r.address 0x1000000
    && ltb r.priority 16
    && ltb r.spare 16

-- every field is within its bits and its range, and no mark is a plain number
unfoldable pub good_report : Report → Bool
good_report r =
    good_position r.position r.integrity
    && ltb (steps_or r.altitude 0) 0xFFF
    && ltb (knots_or r.speed 0 0) 0xFFE
    && between lowest_climb highest_climb (climb_or r.climb (pos 0) (pos 0) (pos 0))
    && within_bits r

-- the report, as a struct of numbers
abbrev pub in_numbers : Result Report Refusal → Result FlatReport Refusal
in_numbers (Ok report) = Ok (flat_report report)
in_numbers (Err refusal) = Err refusal

-- of the kind with this id
abbrev pub report_read : ℕ → List ℕ → Result FlatReport Refusal
report_read id m = in_numbers (reading id 28 report_in good_report m)

abbrev pub ownship_read : List ℕ → Result FlatReport Refusal
ownship_read = report_read 10

abbrev pub traffic_read : List ℕ → Result FlatReport Refusal
traffic_read = report_read 20

-- the typed values
abbrev pub ownship_in : List ℕ → Ownship
ownship_in m = record { report = report_in m }

abbrev pub read_ownship : List ℕ → Result Ownship Refusal
read_ownship = reading 10 28 ownship_in (λ x. good_report x.report)

abbrev pub traffic_in : List ℕ → Traffic
traffic_in m = record { report = report_in m }

abbrev pub read_traffic : List ℕ → Result Traffic Refusal
read_traffic = reading 20 28 traffic_in (λ x. good_report x.report)

-- an ownship's, or a traffic report's
abbrev pub is_report_id : ℕ → Bool
is_report_id id = eqb id 10 || eqb id 20
