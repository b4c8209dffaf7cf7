use Rattle.std.proofs.Common.{◌∙◌}
use Rattle.bv.proofs.Words.{rotate-right-law}
use Rattle.bv.proofs.Vector.rotate_right.Goals as goal

pub returns-clause-number : goal.returns-clause-number
returns-clause-number c = c.exchanged.ensures.number ∙ rotate-right-law c.args.self.width c.args.self.number c.args.k c.requires c.args.self.one.below
