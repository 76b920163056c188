-- `listing::settled` meets its contract.
-- Assumes nothing.
use mathlib.Core.Path.{◌≡◌, sym, ap, ◌∙◌}
use mathlib.Core.Bool.{Bool, false, cond}
use Rattle.listing.specs.Listing.{state, start, holds, settled}
use Rattle.listing.proofs.Steps.{sane_start, sane_holds, settled_sane}
use Rattle.listing.proofs.settled.Goals as goal

pub returns-then-holds : goal.returns-then-holds
returns-then-holds c =
    let s = state c.args.lister c.args.room.now in
    sym (settled_sane s (sane_holds s.lister (sym c.holds.ensures ∙ c.if-holds.true)))

pub invariant_of-result-2 : goal.invariant_of-result-2
invariant_of-result-2 c = record { sane = sane_start _ _ c.start.ensures }

pub returns : goal.returns
unfolding settled
returns c =
    let z = c.args in
    let lost : holds z.lister ≡ false = sym c.holds.ensures ∙ c.if-holds.false in
    c.start.ensures ∙ ap (λ (t : Bool). cond t (state z.lister z.room.now) start) (sym lost)
