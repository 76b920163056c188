-- What one kind's reading and writing say of a message of whatever kind.
-- Assumes nothing.
use mathlib.Core.Path.{◌≡◌, refl}
use Prim.Native.Nat.{ℕ}
use mathlib.Core.List.{List}
use Rattle.std.specs.Prelude.{Ok, Err}
use Rattle.refusals.specs.declared.Refusal.{Refusal}
use Rattle.c_report.specs.declared.FlatReport.{FlatReport}
use Rattle.c_report.specs.Flat.{report_from}
use Rattle.report.specs.Reading.{good_report, ownship_read, traffic_read, read_ownship, read_traffic}
use Rattle.report.proofs.Typed.{typed_ok, typed_err}

module _ {flat : FlatReport} (m : List ℕ) where
  pub ownship_ok : ownship_read m ≡ Ok flat → read_ownship m ≡ Ok (record { report = report_from flat })
  ownship_ok e = typed_ok 10 m (λ r. record { report = r }) (λ o. good_report o.report) (λ r. refl) e

  pub traffic_ok : traffic_read m ≡ Ok flat → read_traffic m ≡ Ok (record { report = report_from flat })
  traffic_ok e = typed_ok 20 m (λ r. record { report = r }) (λ o. good_report o.report) (λ r. refl) e

module _ {refusal : Refusal} (m : List ℕ) where
  pub ownship_err : ownship_read m ≡ Err refusal → read_ownship m ≡ Err refusal
  ownship_err e = typed_err 10 m (λ r. record { report = r }) (λ o. good_report o.report) (λ r. refl) e

  pub traffic_err : traffic_read m ≡ Err refusal → read_traffic m ≡ Err refusal
  traffic_err e = typed_err 20 m (λ r. record { report = r }) (λ o. good_report o.report) (λ r. refl) e
