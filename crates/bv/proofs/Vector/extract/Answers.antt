use Rattle.std.proofs.Common.{sym, ◌∙◌}
use Rattle.vectors.specs.VectorLaws as laws
use Rattle.bv.proofs.Vector.extract.Goals as goal

pub returns-clause-number : goal.returns-clause-number
returns-clause-number c = c.low.ensures.number ∙ sym (laws.extract-is c.args.i c.args.j c.args.self.number)
