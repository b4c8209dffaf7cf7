use Rattle.std.proofs.Common.{refl, sym, ◌∙◌}
use Rattle.vectors.specs.Vectors.{bvult, bvugt, bvsgt, bvsge}
use Rattle.vectors.specs.VectorLaws as laws
use Rattle.operators.proofs.comparison.Goals as goal

pub returns-in-Ult : goal.returns-in-Ult
unfolding bvult
returns-in-Ult c = rw c.in-Ult.is refl

pub returns-in-Ule : goal.returns-in-Ule
returns-in-Ule c = rw c.in-Ule.is (sym (laws.bvule-is c.args.s.number c.args.t.number))

pub returns-in-Ugt : goal.returns-in-Ugt
unfolding bvugt bvult
returns-in-Ugt c = rw c.in-Ugt.is refl

pub returns-in-Uge : goal.returns-in-Uge
returns-in-Uge c = rw c.in-Uge.is (sym (laws.bvule-is c.args.t.number c.args.s.number) ∙ laws.bvuge-is c.args.s.number c.args.t.number)

pub returns-in-Sgt : goal.returns-in-Sgt
unfolding bvsgt
returns-in-Sgt c = rw c.in-Sgt.is (rw c.requires at c.bvslt-in-Sgt.ensures)

pub returns-in-Sge : goal.returns-in-Sge
unfolding bvsge
returns-in-Sge c = rw c.in-Sge.is (rw c.requires at c.bvsle-in-Sge.ensures)
