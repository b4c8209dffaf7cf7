use Rattle.std.proofs.Common.{sym, ◌∙◌}
use Rattle.vectors.proofs.VectorLaws as laws
use Rattle.bv.proofs.Vector.bvsle.Goals as goal

pub returns : goal.returns
returns c = (rw c.requires at c.ordered.ensures) ∙ sym (laws.bvsle-is c.args.self.width c.args.self.number c.args.t.number)
