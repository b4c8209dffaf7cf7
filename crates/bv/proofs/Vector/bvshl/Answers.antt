use Rattle.std.proofs.Common.{◌*◌, ◌^◌, ◌%◌, refl, sym, ◌∙◌}
use Rattle.vectors.specs.Vectors.{nat2bv, bvshl}
use Rattle.vectors.specs.VectorLaws as laws
use Rattle.bv.proofs.Words.{cut-law}
use Rattle.bv.proofs.Vector.bvshl.Goals as goal

pub returns-then-self-t-clause-number : goal.returns-then-self-t-clause-number
returns-then-self-t-clause-number c = c.with.ensures.number ∙ sym (laws.bvshl-far c.args.self.width c.args.self.number c.args.t.number c.if-self-t.true)

pub returns-clause-number : goal.returns-clause-number
unfolding bvshl nat2bv
returns-clause-number c = cut-law c.args.self.width (c.args.self.number * 2 ^ c.args.t.number) ((c.args.self.number * 2 ^ c.args.t.number) % 2 ^ 64) c.low.result.number c.args.self.one.word refl c.low.ensures.number
