-- A reading in numbers, and the typed one: from an answer of the first follows that of the second.
-- Assumes nothing.
use mathlib.Core.Path.{◌≡◌, refl, ap, ◌∙◌}
use mathlib.Core.Bool.{Bool, true, false, cond}
use mathlib.Core.List.{List}
use Prim.Native.Nat.{ℕ}
use Rattle.std.specs.Prelude.{Result, Ok, Err}
use Rattle.refusals.specs.declared.Refusal.{Refusal}
use Rattle.refusals.specs.declared.Refusal.TheVariants.{BadField}
use Rattle.codec.specs.Reading.{fit, held, reading}
use Rattle.c_report.specs.declared.FlatReport.{FlatReport}
use Rattle.c_report.specs.Flat.{report_from}
use Rattle.c_report.proofs.Laws.{report_there_and_back}
use Rattle.message_types.specs.declared.Report.{Report}
use Rattle.report.specs.Bytes.{report_in}
use Rattle.report.specs.Reading.{good_report, in_numbers, report_read}

module _ {X : Type 0} (id : ℕ) (m : List ℕ) (make : Report → X) (good : X → Bool) (same : (r : Report) → good (make r) ≡ good_report r) where
  typed : Result FlatReport Refusal → Result X Refusal
  typed (Ok flat) = Ok (make (report_from flat))
  typed (Err refusal) = Err refusal

  both : typed (report_read id m) ≡ reading id 28 (λ b. make (report_in b)) good m
  unfolding reading typed
  both = go (fit id 28 m)
    where
      within : (r : Report) (t : Bool) → typed (in_numbers (cond t (Ok r) (Err BadField))) ≡ cond t (Ok (make r)) (Err BadField)
      within r true = ap {B = Result X Refusal} (λ (y : Report). Ok (make y)) (report_there_and_back r)
      within r false = refl

      go : (r : Result (List ℕ) Refusal) → typed (in_numbers (held report_in good_report r)) ≡ held (λ b. make (report_in b)) good r
      go (Err refusal) = refl
      go (Ok b) = within (report_in b) (good_report (report_in b)) ∙ simp (same (report_in b))

  pub typed_ok : {flat : FlatReport} → report_read id m ≡ Ok flat → reading id 28 (λ b. make (report_in b)) good m ≡ Ok (make (report_from flat))
  unfolding typed
  typed_ok e = simp (← both, e)

  pub typed_err : {refusal : Refusal} → report_read id m ≡ Err refusal → reading id 28 (λ b. make (report_in b)) good m ≡ Err refusal
  unfolding typed
  typed_err e = simp (← both, e)
