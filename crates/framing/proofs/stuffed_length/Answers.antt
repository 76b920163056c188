-- `framing::stuffed_length` meets its contract.
-- Assumes nothing.
use Rattle.std.proofs.Common.{rules, ◌≡◌, ◌∙◌, cond, sum_by}
use Rattle.framing.specs.Stuffing.{is_escaped}
use Rattle.framing.proofs.Escaping.{stuffed_sum}
use Rattle.framing.proofs.stuffed_length.Goals as goal

pub returns : goal.returns
returns c =
    let e : c.sum.result ≡ sum_by (λ b. cond (is_escaped b) 2 1) c.args.bytes.now = search rules in
    e ∙ stuffed_sum c.args.bytes.now
