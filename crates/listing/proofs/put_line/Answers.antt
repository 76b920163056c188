-- `listing::put_line` meets its contract, field by field.
-- Assumes nothing.
use native.Mathlib.Omega.{arith}
use mathlib.Core.List.{[]}
use Prim.Native.Nat.{◌+◌}
use Rattle.listing.specs.Line.{digits, shown}
use Rattle.listing.specs.Listing.{answer_line}
use Rattle.listing.proofs.Rows.{field_then, last_field}
use Rattle.listing.proofs.put_line.Goals as goal

pub returns : goal.returns
unfolding answer_line
returns c =
    let z = c.args in
    let a = digits z.answer in
    let u = shown z.id in
    let v = shown z.len in
    let w = shown z.position in
    let p₄ = field_then u v _ c.put_field-s.ensures.stored (field_then v w [] c.put_field-t.ensures.stored (last_field w c.put_field.ensures.stored)) in
    let p₂ = field_then (digits z.l.lister.after) a _ c.put_field-q.ensures.stored (field_then a u _ c.put_field-r.ensures.stored p₄) in record { stored = field_then (digits (z.l.lister.lines + 1)) _ _ c.put_field-p.ensures.stored p₂; upper_bound = omega (arith, c.put_field-p.ensures.upper_bound, c.put_field-q.ensures.upper_bound, c.put_field-r.ensures.upper_bound, c.put_field-s.ensures.upper_bound, c.put_field-t.ensures.upper_bound, c.put_field.ensures.upper_bound) }
