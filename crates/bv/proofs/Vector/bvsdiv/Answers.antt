use Rattle.bv.proofs.Words.{sdiv-same, sdiv-other}
use Rattle.bv.proofs.Vector.bvsdiv.Goals as goal

pub returns-then-negative-clause-number : goal.returns-then-negative-clause-number
returns-then-negative-clause-number c =
    sdiv-same c.args.self.width c.args.self.number c.args.t.number c.magnitude.ensures.number (rw c.requires at c.magnitude-2.ensures.number) (rw c.magnitude.ensures.width at c.bvudiv-q.ensures.number)
    (rw (c.negative.ensures, c.negative-2.ensures, c.requires) at c.if-negative.true)

pub returns-else-negative-clause-number : goal.returns-else-negative-clause-number
returns-else-negative-clause-number c =
    sdiv-other c.args.self.width c.args.self.number c.args.t.number c.magnitude.ensures.number (rw c.requires at c.magnitude-2.ensures.number) (rw c.magnitude.ensures.width at c.bvudiv-q.ensures.number)
    (rw (c.bvudiv-q.ensures.width, c.magnitude.ensures.width) at c.bvneg.ensures.number)
    (rw (c.negative.ensures, c.negative-2.ensures, c.requires) at c.if-negative.false)
