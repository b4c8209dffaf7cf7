use Rattle.std.proofs.Common.{sym, ◌∙◌}
use Rattle.vectors.specs.VectorLaws as laws
use Rattle.bv.proofs.Vector.bvand.Goals as goal

pub returns-clause-number : goal.returns-clause-number
returns-clause-number c = c.with.ensures.number ∙ sym (laws.bvand-is c.args.self.width c.args.self.number c.args.t.number c.args.self.one.below (rw c.requires at c.args.t.one.below))
