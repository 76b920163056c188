-- What is answered between two flags, by the first fault and the bytes taken then.
-- Assumes nothing.
use mathlib.Core.Path.{◌≡◌, refl}
use mathlib.Core.Bool.{Bool, true, false, cond}
use Prim.Native.Nat.{ℕ, ◌+◌}
use lib.Dec.{eqb, ltb}
use borrow.Author.Tests.{eqb-true}
use lib.ListN.{length, take}
use Rattle.framing.specs.Stuffing.{stuff, Unstuffed}
use Rattle.collecting.specs.Stream.{refused}
use Rattle.collecting.specs.Between.{whole, verdict}
use Rattle.recording.specs.Steps.{first_fault, stuffed_taken, judged}

pub verdict_judged : (at : ℕ) (u : Unstuffed) → verdict at u ≡ judged (first_fault u) (stuffed_taken at u) u.bytes
unfolding verdict
verdict_judged at u = go (ltb 438 (length u.bytes)) (eqb u.fault 0) refl
  where
    go : (t v : Bool) → eqb u.fault 0 ≡ v
        → cond t (refused 3 (length (stuff (take 439 u.bytes)))) (cond v (whole at u.bytes) (refused u.fault (cond (eqb u.fault 1) (length (stuff u.bytes) + 2) at)))
        ≡ judged (cond t 3 u.fault) (cond t (length (stuff (take 439 u.bytes))) (cond (eqb u.fault 1) (length (stuff u.bytes) + 2) at)) u.bytes
    go true v h = refl
    go false true h = let none : u.fault ≡ 0 = eqb-true u.fault 0 h in rw (none) refl
    go false false h = rw (h) refl
