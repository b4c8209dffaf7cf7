use Rattle.std.proofs.Common.{arith}
use Rattle.vectors.specs.VectorLaws as laws
use Rattle.bv.proofs.Words.{concat-law}
use Rattle.bv.proofs.Vector.concat.Goals as goal

pub invariant_of-result : goal.invariant_of-result
invariant_of-result c = record {
  one = record {
    some = omega arith;
    word = c.requires;
    below = rw (concat-law c.args.self.width c.args.t.width c.args.self.number c.args.t.number c.requires c.args.self.one.below c.args.t.one.below) (laws.concat-lt c.args.self.width c.args.t.width c.args.self.number c.args.t.number);
  };
}

pub returns-clause-number : goal.returns-clause-number
returns-clause-number c = concat-law c.args.self.width c.args.t.width c.args.self.number c.args.t.number c.requires c.args.self.one.below c.args.t.one.below
