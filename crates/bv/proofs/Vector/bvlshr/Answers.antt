use Rattle.std.proofs.Common.{sym, ◌∙◌}
use Rattle.vectors.specs.VectorLaws as laws
use Rattle.bv.proofs.Vector.bvlshr.Goals as goal

pub returns-then-self-t-clause-number : goal.returns-then-self-t-clause-number
returns-then-self-t-clause-number c = c.with.ensures.number ∙ sym (laws.bvlshr-far c.args.self.width c.args.self.number c.args.t.number c.if-self-t.true c.args.self.one.below)

pub returns-clause-number : goal.returns-clause-number
returns-clause-number c = c.with-2.ensures.number ∙ sym (laws.bvlshr-is c.args.self.width c.args.self.number c.args.t.number c.args.self.one.below)
