use Rattle.std.proofs.Common.{◌∙◌}
use Rattle.bv.proofs.Words.{bvneg-law}
use Rattle.bv.proofs.Vector.bvneg.Goals as goal

pub returns-clause-number : goal.returns-clause-number
returns-clause-number c = c.low.ensures.number ∙ bvneg-law c.args.self.width c.args.self.number c.wrapping_neg.result c.args.self.one.word c.args.self.one.below c.wrapping_neg.ensures
