-- `collecting::through_flag` meets its contract.
-- Assumes nothing.
use native.Mathlib.Omega.{arith}
use Rattle.collecting.proofs.Feeding.{leads_filled, leads_one}
use Rattle.collecting.proofs.through_flag.Goals as goal

pub returns-then-n-bytes : goal.returns-then-n-bytes
returns-then-n-bytes c =
    let p = leads_filled c.args.message.now c.fill-filled.ensures.taken_value c.fill-filled.ensures.room_after in
    record { le_taken = omega arith; leads = leads_one p (omega arith) c.step-s.ensures }

pub returns : goal.returns
returns c =
    record { le_taken = omega arith; leads = leads_filled c.args.message.now c.fill-filled.ensures.taken_value c.fill-filled.ensures.room_after }
