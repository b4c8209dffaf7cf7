use Rattle.std.proofs.Common.{sym, ◌∙◌}
use Rattle.vectors.specs.VectorLaws as laws
use Rattle.bv.proofs.Words.{sign-minus-law, sign-none-law}
use Rattle.bv.proofs.Vector.sign_extend.Goals as goal

pub returns-then-i-eq0-clause-number : goal.returns-then-i-eq0-clause-number
returns-then-i-eq0-clause-number c = sign-none-law c.args.i c.args.self.width c.args.self.number c.if-i-eq0.true c.args.self.one.below

pub returns-then-negative-clause-number : goal.returns-then-negative-clause-number
returns-then-negative-clause-number c = (rw c.ones.ensures.width at c.concat.ensures.number) ∙ sign-minus-law c.args.i c.args.self.width c.args.self.number c.ones.result.number (sym c.negative.ensures ∙ c.if-negative.true) c.ones.ensures.number

pub returns-else-negative-clause-number : goal.returns-else-negative-clause-number
returns-else-negative-clause-number c = c.zero_extend.ensures.number ∙ laws.zero-extend-is c.args.i c.args.self.width c.args.self.number c.args.self.one.below ∙ sym (laws.sign-extend-plus c.args.i c.args.self.width c.args.self.number c.args.self.one.below (sym c.negative.ensures ∙ c.if-negative.false))
