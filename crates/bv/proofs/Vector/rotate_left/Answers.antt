use Rattle.std.proofs.Common.{◌∙◌}
use Rattle.bv.proofs.Words.{rotate-left-law}
use Rattle.bv.proofs.Vector.rotate_left.Goals as goal

pub returns-clause-number : goal.returns-clause-number
returns-clause-number c = c.exchanged.ensures.number ∙ rotate-left-law c.args.self.width c.args.self.number c.args.k c.requires c.args.self.one.below
