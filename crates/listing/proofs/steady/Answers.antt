-- `listing::steady` meets its contract.
-- Assumes nothing.
use mathlib.Core.Path.{◌≡◌, sym, ap, ◌∙◌}
use mathlib.Core.Bool.{Bool, false, cond}
use Rattle.listing.specs.Listing.{opening, holds, steady}
use Rattle.listing.proofs.Steps.{sane_opening, sane_holds, steady_sane}
use Rattle.listing.proofs.steady.Goals as goal

pub returns-then-holds : goal.returns-then-holds
returns-then-holds c =
    let l = c.args.lister in
    sym (steady_sane l (sane_holds l (sym c.holds.ensures ∙ c.if-holds.true)))

pub invariant_of-result-2 : goal.invariant_of-result-2
invariant_of-result-2 c = record { sane = rw c.opening.ensures sane_opening }

pub returns : goal.returns
unfolding steady
returns c =
    let l = c.args.lister in
    let lost : holds l ≡ false = sym c.holds.ensures ∙ c.if-holds.false in
    c.opening.ensures ∙ ap (λ (t : Bool). cond t l opening) (sym lost)
