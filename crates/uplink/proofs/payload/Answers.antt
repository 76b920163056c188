-- `uplink::payload` meets its contract: what is read as an uplink has 436 bytes.
-- Assumes nothing.
use mathlib.Core.Path.{◌≡◌, refl, sym, ap, ◌∙◌}
use Prim.Native.Nat.{ℕ, ◌-◌}
use native.Mathlib.Omega.{arith}
use lib.ListN.{length, take, drop}
use Rattle.uplink.proofs.Uplinks.{sized}
use Rattle.uplink.proofs.payload.Goals as goal

pub slice_bounds-result-count : goal.slice_bounds-result-count
slice_bounds-result-count c = omega (arith, sized _ (sym c.in-Ok.is ∙ c.read_uplink.ensures))

pub slice_bounds-result-start : goal.slice_bounds-result-start
slice_bounds-result-start c = omega (arith, sized _ (sym c.in-Ok.is ∙ c.read_uplink.ensures))

pub returns-in-Ok : goal.returns-in-Ok
returns-in-Ok c =
    let m = c.args.message.now in
    let size : length m - 4 ≡ 432 = omega (arith, sized _ (sym c.in-Ok.is ∙ c.read_uplink.ensures)) in
    rw (← c.read_uplink.ensures, c.in-Ok.is) (record { holds = ap (λ (n : ℕ). take n (drop 4 m)) size; stands = refl })
