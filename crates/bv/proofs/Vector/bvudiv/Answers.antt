use Rattle.std.proofs.Common.{sym, ◌∙◌}
use native.Mathlib.Nat.{pos_of_ne-zero}
use Rattle.vectors.specs.VectorLaws as laws
use Rattle.bv.proofs.Words.{bvudiv-zero-law}
use Rattle.bv.proofs.Vector.bvudiv.Goals as goal

pub returns-then-t-eq0-clause-number : goal.returns-then-t-eq0-clause-number
returns-then-t-eq0-clause-number c = bvudiv-zero-law c.args.self.width c.args.self.number c.args.t.number c.ones.result.number c.if-t-eq0.true c.ones.ensures.number

pub returns-clause-number : goal.returns-clause-number
returns-clause-number c = c.with.ensures.number ∙ sym (laws.bvudiv-is c.args.self.width c.args.self.number c.args.t.number (pos_of_ne-zero c.if-t-eq0.false) c.args.self.one.below)
