-- `recording::put_message` meets its contract.
-- Assumes nothing.
use native.Mathlib.Omega.{arith}
use native.Mathlib.Numerals.{add-one}
use mathlib.Core.Path.{◌≡◌, ap, ◌∙◌}
use Prim.Native.Nat.{ℕ, ◌+◌}
use mathlib.Core.List.{[], ◌∷◌, ◌++◌}
use lib.ListN.{length, take, get_or}
use lib.Seq.{take-suc, take_all}
use Rattle.numbers.proofs.Storing.{also}
use Rattle.recording.proofs.put_message.Goals as goal

pub loop-i-preserved : goal.loop-i-preserved
loop-i-preserved c =
    let bs = c.args.message.now in
    let i = c.loop-i.i in
    let more : take (i + 1) bs ≡ take i bs ++ (get_or bs i 0 ∷ []) = ap (λ (k : ℕ). take k bs) (add-one i) ∙ take-suc bs i 0 (omega arith) in
    rw more (also (take i bs) (get_or bs i 0) _ (omega arith) c.loop-i.invariant)

pub returns : goal.returns
returns c =
    let bs = c.args.message.now in
    let e : c.loop-i.i ≡ length bs = omega arith in
    rw (e, take_all (length bs) bs (omega arith)) at c.loop-i.invariant
