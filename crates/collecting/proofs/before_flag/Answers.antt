-- `collecting::before_flag` meets its contract.
-- Assumes nothing.
use Rattle.std.proofs.Common.{◌∙◌, ap, length, Option, ℕ}
use Rattle.std.specs.Option.{unwrap_or}
use Rattle.collecting.proofs.Searching.{first_flag}
use Rattle.collecting.proofs.before_flag.Goals as goal

pub returns : goal.returns
returns c =
    let bs = c.args.bytes.now in
    c.unwrap_or.ensures ∙ ap (λ (i : Option ℕ). unwrap_or i (length bs)) c.first_flag.ensures ∙ first_flag bs
