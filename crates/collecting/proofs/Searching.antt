-- Bytes up to the first that is not plain.
-- Assumes nothing.
use mathlib.Core.Path.{◌≡◌, refl, sym, ◌∙◌}
use mathlib.Core.Bool.{Bool, true, false, cond, not}
use Prim.Native.Nat.{ℕ}
use mathlib.Core.List.{List}
use native.Mathlib.Omega.{arith}
use lib.Dec.{eqb, ltb}
use lib.ListN.{length}
use borrow.Author.Tests.{ltb-false}
use Rattle.std.proofs.Common.{Some, None}
use Rattle.std.specs.Option.{unwrap_or}
use Rattle.std.specs.List.{position_or_len, position}
use Rattle.std.proofs.lemmas.List.Recursion.{is_position_or_len}
use Rattle.std.proofs.lemmas.List.Sums.{prefix_len-le-length}
use Rattle.framing.specs.Stuffing.{flag}
use Rattle.collecting.specs.Stream.{unflagged}

-- the first flag
pub first_flag : (bs : List ℕ) → unwrap_or (position (λ b. eqb b flag) bs) (length bs) ≡ unflagged bs
unfolding unflagged
first_flag bs = go (ltb (position_or_len (λ b. eqb b flag) bs) (length bs)) refl ∙ sym (is_position_or_len unflagged (λ b. eqb b flag) refl (λ b bs. grind arith) bs)
  where
    k : ℕ
    k = position_or_len (λ b. eqb b flag) bs

    go : (t : Bool) → ltb k (length bs) ≡ t → unwrap_or (cond t (Some k) None) (length bs) ≡ k
    go true e = refl
    go false e = omega (arith, ltb-false k (length bs) e, prefix_len-le-length (λ b. not (eqb b flag)) bs)
