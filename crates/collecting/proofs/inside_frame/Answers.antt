-- `collecting::inside_frame` meets its contract, by the phase and the byte.
-- Assumes nothing.
use mathlib.Core.Path.{sym, ◌∙◌}
use Rattle.collecting.specs.Step.{held}
use Rattle.collecting.proofs.Cases.{open_escape, open_other, escape_any, stays}
use Rattle.collecting.proofs.inside_frame.Goals as goal

pub returns-then-byte-eq125 : goal.returns-then-byte-eq125
returns-then-byte-eq125 c = open_escape (held c.args.control c.args.room.now) c.args.byte c.in-Open.is c.if-byte-eq125.true

pub returns-else-byte-eq125 : goal.returns-else-byte-eq125
returns-else-byte-eq125 c =
    c.collect.ensures ∙ open_other (held c.args.control c.args.room.now) c.args.byte c.in-Open.is c.if-byte-eq125.false

pub returns-in-Escape : goal.returns-in-Escape
returns-in-Escape c =
    c.after_escape.ensures ∙ escape_any (held c.args.control c.args.room.now) c.args.byte c.in-Escape.is

pub returns-in_default : goal.returns-in_default
returns-in_default c = sym (stays c.args.control.phase c.in_default.not-Open c.in_default.not-Escape (held c.args.control c.args.room.now) c.args.byte)
