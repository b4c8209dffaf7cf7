use Rattle.std.proofs.Common.{sym, ◌∙◌}
use Rattle.bv.proofs.Words.{ashr-minus, ashr-plus}
use Rattle.bv.proofs.Vector.bvashr.Goals as goal

pub returns-then-negative-clause-number : goal.returns-then-negative-clause-number
returns-then-negative-clause-number c =
    ashr-minus c.args.self.width c.args.self.number c.args.t.number (sym c.negative.ensures ∙ c.if-negative.true) c.bvnot.ensures.number (rw c.bvnot.ensures.width at c.bvlshr.ensures.number)
    (rw (c.bvlshr.ensures.width, c.bvnot.ensures.width) at c.bvnot-then-negative.ensures.number)

pub returns-else-negative-clause-number : goal.returns-else-negative-clause-number
returns-else-negative-clause-number c = ashr-plus c.args.self.width c.args.self.number c.args.t.number (sym c.negative.ensures ∙ c.if-negative.false) c.bvlshr-else-negative.ensures.number
