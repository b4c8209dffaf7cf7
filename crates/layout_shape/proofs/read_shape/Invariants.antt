-- `layout_shape::read_shape` meets its contract: one input a turn. Assumes nothing.
use Rattle.layout_shape.proofs.Steps.{Upto}
use Rattle.layout_shape.proofs.read_shape.Given as goal

abbrev pub invariant-loop-k : goal.invariant-loop-k
invariant-loop-k l = Upto l.s l.part-items l.at l.k
