use Rattle.std.proofs.Common.{sym, lt_of_lt_of_le, pow_mono, arith}
use Rattle.vectors.specs.VectorLaws as laws
use Rattle.bv.proofs.Vector.zero_extend.Goals as goal

pub invariant_of-result : goal.invariant_of-result
invariant_of-result c = record { one = record { some = omega arith; word = c.requires; below = lt_of_lt_of_le c.args.self.one.below (pow_mono (omega arith)) } }

pub returns-clause-number : goal.returns-clause-number
returns-clause-number c = sym (laws.zero-extend-is c.args.i c.args.self.width c.args.self.number c.args.self.one.below)
