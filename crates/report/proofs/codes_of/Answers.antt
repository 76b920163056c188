-- `report::codes_of` meets its contract.
-- Assumes nothing.
use mathlib.Core.Path.{ap, ◌∙◌}
use Rattle.units.proofs.Wide.{back32}
use Rattle.numbers.specs.Signed.{field_of}
use Rattle.report.specs.Bytes.{codes_of}
use Rattle.report.proofs.codes_of.Goals as goal

pub returns : goal.returns
unfolding codes_of
returns c =
    let at = c.unwrap_or-at.ensures in
    let latitude = back32 _ c.struct_told-1.given.0.1 ∙ (λ i. (at i).latitude) in
    let longitude = back32 _ c.struct_told-1.given.1.0.1 ∙ (λ i. (at i).longitude) in
    let climb = back32 _ c.climb_or.type_inv ∙ c.climb_or.ensures in
    let lat = c.field_of.ensures ∙ ap (field_of 0x800000) latitude in
    let lon = c.field_of-2.ensures ∙ ap (field_of 0x800000) longitude in
    let vert = c.field_of-3.ensures ∙ ap (field_of 0x800) climb in
    λ i. record {
      latitude = lat i;
      longitude = lon i;
      altitude = (c.unwrap_or.ensures i).steps;
      kind = c.track_number.ensures i;
      extrapolated = c.from.ensures i;
      airborne = c.from-2.ensures i;
      speed = c.knots_or.ensures i;
      climb = vert i;
    }
