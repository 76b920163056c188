-- `listing::advance` meets its contract, by its callees'.
-- Assumes nothing.
use mathlib.Core.Path.{ap, ◌∙◌}
use mathlib.Core.Bool.{Bool}
use Rattle.collecting.proofs.Ranging.{in_range}
use Rattle.listing.specs.Listing.{state, collector, counted}
use Rattle.listing.proofs.Steps.{answer_is, state_is, text_is}
use Rattle.listing.proofs.advance.Goals as goal

pub put_reply-end-requires : goal.put_reply-end-requires
put_reply-end-requires c =
    let s = state c.args.l.lister c.args.room.now in
    let e = answer_is s c.args.byte c.step-stepped.result c.step-stepped.new.room c.step-stepped.new.message c.args.message.now c.step-stepped.ensures in
    (rw e (in_range (collector s) c.args.byte), c.requires.1)

pub returns : goal.returns
returns c =
    let g = c.put_reply-end in
    let z = c.args in
    let s = state z.l.lister z.room.now in
    let n = c.counted-after.ensures ∙ ap (λ (t : Bool). counted z.l.lister z.byte c.step-stepped.result.control t) c.is_answered.ensures in record {
      room_after = state_is s z.byte c.step-stepped.result c.step-stepped.new.room c.step-stepped.new.message z.message.now c.step-stepped.ensures c.counted-after.result.lister n;
      stored = rw (text_is s z.byte c.step-stepped.result c.step-stepped.new.room c.step-stepped.new.message z.message.now c.step-stepped.ensures) at g.ensures.stored;
      end_bound = g.ensures.upper_bound;
    }
