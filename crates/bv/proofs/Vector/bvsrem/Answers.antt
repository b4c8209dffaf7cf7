use Rattle.std.proofs.Common.{sym, ◌∙◌}
use Rattle.bv.proofs.Words.{srem-minus, srem-plus}
use Rattle.bv.proofs.Vector.bvsrem.Goals as goal

pub returns-then-negative-clause-number : goal.returns-then-negative-clause-number
returns-then-negative-clause-number c =
    srem-minus c.args.self.width c.args.self.number c.args.t.number c.magnitude.ensures.number (rw c.requires at c.magnitude-2.ensures.number) (rw c.magnitude.ensures.width at c.bvurem-r.ensures.number)
    (rw (c.bvurem-r.ensures.width, c.magnitude.ensures.width) at c.bvneg.ensures.number)
    (sym c.negative.ensures ∙ c.if-negative.true)

pub returns-else-negative-clause-number : goal.returns-else-negative-clause-number
returns-else-negative-clause-number c =
    srem-plus c.args.self.width c.args.self.number c.args.t.number c.magnitude.ensures.number (rw c.requires at c.magnitude-2.ensures.number) (rw c.magnitude.ensures.width at c.bvurem-r.ensures.number)
    (sym c.negative.ensures ∙ c.if-negative.false)
