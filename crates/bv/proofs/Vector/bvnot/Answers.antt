use Rattle.std.proofs.Common.{arith}
use Rattle.vectors.specs.VectorLaws as laws
use Rattle.bv.proofs.Vector.bvnot.Goals as goal

pub returns-clause-number : goal.returns-clause-number
returns-clause-number c = let q = laws.bvnot-is c.args.self.width c.args.self.number c.args.self.one.below in omega (arith, q)
