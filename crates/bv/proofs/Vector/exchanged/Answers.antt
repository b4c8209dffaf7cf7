use Rattle.std.proofs.Common.{◌∙◌, arith}
use Rattle.bv.proofs.Words.{exchanged-none, above_lt, exchanged-law}
use Rattle.bv.proofs.Vector.exchanged.Goals as goal

pub returns-then-lowest-eq0-clause-number : goal.returns-then-lowest-eq0-clause-number
returns-then-lowest-eq0-clause-number c = exchanged-none c.args.self.width c.args.lowest c.args.self.number c.args.self.one.below c.then-lowest-eq0.either

pub invariant_of-above : goal.invariant_of-above
invariant_of-above c = record { one = record { some = omega arith; word = omega arith; below = above_lt c.args.self.width c.args.lowest c.args.self.number c.requires c.args.self.one.below } }

pub returns-clause-number : goal.returns-clause-number
returns-clause-number c = (rw (c.low.ensures.width, c.low.ensures.number) at c.concat.ensures.number) ∙ exchanged-law c.args.self.width c.args.lowest c.args.self.number c.requires c.args.self.one.below
