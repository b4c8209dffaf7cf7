use Rattle.std.proofs.Common.{arith}
use Rattle.bv.proofs.Words.{ones-law}
use Rattle.bv.proofs.Vector.ones.Goals as goal

pub invariant_of-result : goal.invariant_of-result
invariant_of-result c = let e = ones-law c.args.width c.requires.some c.requires.word in record { one = record { some = c.requires.some; word = c.requires.word; below = omega (arith, e) } }

pub returns-clause-number : goal.returns-clause-number
returns-clause-number c = ones-law c.args.width c.requires.some c.requires.word
