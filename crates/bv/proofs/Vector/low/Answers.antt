use Rattle.bv.proofs.Words.{low-law}
use Rattle.bv.proofs.Vector.low.Goals as goal

pub returns-clause-number : goal.returns-clause-number
returns-clause-number c = low-law c.args.width c.args.x c.ones.result.number c.ones.ensures.number
