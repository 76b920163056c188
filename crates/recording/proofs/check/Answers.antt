-- `recording::check` meets its contract.
-- Assumes nothing.
use Rattle.recording.proofs.Checking.{front_checked, fault_checked}
use Rattle.recording.proofs.check.Goals as goal

pub returns-in-Ok : goal.returns-in-Ok
returns-in-Ok c = rw (c.in-Ok.is) (front_checked c.args.all c.in-Ok.count c.args.room.now _ (rw (c.in-Ok.is) at c.requires) c.whole.ensures)

pub returns-in-Err : goal.returns-in-Err
returns-in-Err c = rw (c.in-Err.is) (fault_checked c.args.all c.in-Err.broken c.args.room.now _ c.number.ensures)
