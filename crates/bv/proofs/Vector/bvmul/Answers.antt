use Rattle.std.proofs.Common.{◌*◌, ◌%◌, ◌^◌, refl}
use Rattle.vectors.specs.Vectors.{nat2bv, bvmul}
use Rattle.bv.proofs.Words.{cut-law}
use Rattle.bv.proofs.Vector.bvmul.Goals as goal

pub returns-clause-number : goal.returns-clause-number
unfolding bvmul nat2bv
returns-clause-number c = cut-law c.args.self.width (c.args.self.number * c.args.t.number) ((c.args.self.number * c.args.t.number) % 2 ^ 64) c.low.result.number c.args.self.one.word refl c.low.ensures.number
