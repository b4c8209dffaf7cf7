use Rattle.std.proofs.Common.{sym, ◌∙◌}
use native.Mathlib.Nat.{pos_of_ne-zero}
use Rattle.vectors.specs.VectorLaws as laws
use Rattle.bv.proofs.Words.{bvurem-zero-law}
use Rattle.bv.proofs.Vector.bvurem.Goals as goal

pub returns-then-t-eq0-clause-number : goal.returns-then-t-eq0-clause-number
returns-then-t-eq0-clause-number c = bvurem-zero-law c.args.self.width c.args.self.number c.args.t.number c.if-t-eq0.true

pub returns-clause-number : goal.returns-clause-number
returns-clause-number c = c.with.ensures.number ∙ sym (laws.bvurem-is c.args.self.width c.args.self.number c.args.t.number (pos_of_ne-zero c.if-t-eq0.false) c.args.self.one.below)
