-- `units::in_degrees` meets its contract: steps that 24 bits hold lose nothing.
-- Assumes nothing.
use Rattle.std.proofs.Common.{rules}
use Rattle.units.specs.Degrees.{ExactlyAt}
use Rattle.units.proofs.Exact.{exact_step}
use Rattle.units.proofs.in_degrees.Goals as goal

pub returns-clause-exact : goal.returns-clause-exact
unfolding ExactlyAt
returns-clause-exact c = (exact_step c.args.latitude (search rules) (search rules), exact_step c.args.longitude (search rules) (search rules))
