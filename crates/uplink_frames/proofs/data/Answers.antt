-- `uplink_frames::data` meets its contract: a part of the payload, which is a part of the message.
-- Assumes nothing.
use Rattle.uplink_frames.proofs.Payloads.{part_of_part}
use Rattle.uplink_frames.proofs.data.Goals as goal

pub returns : goal.returns
returns c = part_of_part _ _ c.payload.ensures c.data.ensures
