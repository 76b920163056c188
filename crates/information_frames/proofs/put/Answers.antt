-- `information_frames::put` meets its contract: a store in the payload's header, two in the frame's, and its data with zeros behind them.
-- Assumes nothing.
use mathlib.Core.Path.{◌≡◌, refl}
use Prim.Native.Nat.{◌+◌, ◌-◌, ◌*◌, ◌/◌, ◌%◌}
use native.Mathlib.Omega.{arith}
use lib.ListN.{length, take, drop, set, length-set, length-drop}
use lib.Seq.{length-take-le}
use Rattle.codec.proofs.Outcomes.{put_whole}
use Rattle.information_frames.proofs.Putting.{filled, put_is}
use Rattle.information_frames.proofs.put.Goals as goal

pub returns : goal.returns
returns c =
    let a = c.args in
    let q = set (set (set a.payload.now 6 c.with_valid_bit.result) (a.end + 8) (length a.bytes.now / 2)) (a.end + 9) (length a.bytes.now % 2 * 128 + a.kind) in
    let size : length q ≡ 432 = simp length-set c.requires.0 in
    let at = a.end + 10 in
    let size' = length-take-le (at + length a.bytes.now - at) (drop at q) (omega (arith, size, length-drop at q)) in
    let whole = put_whole a.bytes.now (take (at + length a.bytes.now - at) (drop at q)) (omega (arith, size')) _ _ c.put.ensures in
    let f = filled q a.bytes.now (a.end + 10) (omega arith) _ whole _ refl _ (c.fill.ensures.after (λ y e. e)) in
    put_is a.payload.now a.end a.kind a.bytes.now c.with_valid_bit.result _ c.requires.0 c.requires.1 c.with_valid_bit.ensures q refl (rw size at f)
