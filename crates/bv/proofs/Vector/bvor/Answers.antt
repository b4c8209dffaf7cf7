use Rattle.std.proofs.Common.{sym, ◌∙◌}
use lib.Bits.{or_lt}
use Rattle.vectors.specs.VectorLaws as laws
use Rattle.bv.proofs.Vector.bvor.Goals as goal

pub with-requires : goal.with-requires
with-requires c = or_lt c.args.self.width c.args.self.number c.args.t.number c.args.self.one.below (rw c.requires at c.args.t.one.below)

pub returns-clause-number : goal.returns-clause-number
returns-clause-number c = c.with.ensures.number ∙ sym (laws.bvor-is c.args.self.width c.args.self.number c.args.t.number c.args.self.one.below (rw c.requires at c.args.t.one.below))
