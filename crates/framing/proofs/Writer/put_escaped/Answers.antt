-- `framing::Writer::put_escaped` meets its contract.
-- Assumes nothing.
use Rattle.std.proofs.Common.{sym, ap, ◌∙◌, length, refl, arith, length-set, add-one}
use Rattle.numbers.specs.Bits.{◌⊕◌}
use Rattle.framing.proofs.Escaping.{escaped, plain, escape_size}
use Rattle.framing.proofs.Writer.put_escaped.Goals as goal

pub bounds-self-self : goal.bounds-self-self
bounds-self-self c = omega (arith, escape_size c.args.b)

pub bounds-self-self-then-is_escaped : goal.bounds-self-self-then-is_escaped
bounds-self-self-then-is_escaped c = simp length-set (omega (arith, ap length (escaped c.args.b (sym c.is_escaped.ensures ∙ c.if-is_escaped.true))))

pub bounds-self-self-else-is_escaped : goal.bounds-self-self-else-is_escaped
bounds-self-self-else-is_escaped c = omega (arith, escape_size c.args.b)

pub returns-then-is_escaped-clause-stored : goal.returns-then-is_escaped-clause-stored
unfolding ◌⊕◌
returns-then-is_escaped-clause-stored c = rw ((escaped c.args.b (sym c.is_escaped.ensures ∙ c.if-is_escaped.true))) (record { ends = refl; leaves = rw (add-one c.args.self.now.next) })

pub returns-else-is_escaped-clause-stored : goal.returns-else-is_escaped-clause-stored
returns-else-is_escaped-clause-stored c = rw ((plain c.args.b (sym c.is_escaped.ensures ∙ c.if-is_escaped.false))) (record { ends = refl; leaves = refl })
