use Rattle.std.proofs.Common.{sym}
use Rattle.vectors.specs.VectorLaws as laws
use Rattle.bv.proofs.Vector.negative.Goals as goal

pub returns : goal.returns
returns c = sym (laws.negative-is c.args.self.width c.args.self.number c.args.self.one.some c.args.self.one.below)
