-- `gdl90::gdl90_kind` meets its contract: a message of a kind has a first byte.
-- Assumes nothing.
use mathlib.Core.Path.{◌≡◌, refl, sym, ap, ◌∙◌}
use mathlib.Core.Bool.{Bool, true, false, cond}
use Prim.Native.Nat.{ℕ, ◌<◌}
use mathlib.Core.List.{List}
use native.Mathlib.Omega.{arith}
use lib.Dec.{eqb}
use lib.ListN.{length, get_or}
use borrow.Author.Tests.{eqb-false}
use Rattle.messages.specs.declared.Kind.TheVariants.{Unknown}
use Rattle.messages.specs.Message.{kind_of, kind_in, kind_number}
use Rattle.gdl90.proofs.gdl90_kind.Goals as goal

some : (m : List ℕ) → kind_number (kind_in m) ≡ 0 → 0 < length m
unfolding kind_in
some m = go (eqb (length m) 0) refl
  where
    go : (t : Bool) → eqb (length m) 0 ≡ t → kind_number (cond t Unknown (kind_of (get_or m 0 0))) ≡ 0 → 0 < length m
    go true e z = absurd (omega arith)
    go false e z = let apart = eqb-false (length m) 0 e in omega arith

pub bounds-message-0 : goal.bounds-message-0
bounds-message-0 c =
    let n = c.kind_number-number.ensures ∙ ap kind_number c.kind_in.ensures in
    some _ (sym n ∙ c.if-number-ne0.false)
