use Rattle.std.proofs.Common.{ap, ◌∙◌}
use Rattle.vectors.specs.Vectors.{bvadd, bvsub}
use Rattle.bv.proofs.Vector.bvsub.Goals as goal

pub returns-clause-number : goal.returns-clause-number
unfolding bvsub
returns-clause-number c = c.bvadd.ensures.number ∙ ap (bvadd c.args.self.width c.args.self.number) (rw c.requires at c.bvneg.ensures.number)
