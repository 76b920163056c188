-- `gdl90::gdl90_feed_tallied` meets its contract: what `gdl90_feed` answers, counted by `raise`.
-- Assumes nothing.
use mathlib.Core.Path.{ap, ◌∙◌}
use Rattle.tallying.specs.Tally.{tallied}
use Rattle.gdl90.specs.Collecting.{feeding, answer_in}
use Rattle.gdl90.proofs.Answering.{tallied_same}
use Rattle.gdl90.proofs.gdl90_feed_tallied.Goals as goal

pub returns : goal.returns
returns c =
    let f = c.gdl90_feed-fed.ensures in
    let t = c.args.tally.now in (
      f,
      c.raise.ensures
          ∙ ap (tallied t) (c.answer_in-answer.ensures ∙ ap answer_in f.answers)
          ∙ tallied_same t (feeding c.args.control c.args.room.now c.args.message.now c.args.bytes.now),
    )
