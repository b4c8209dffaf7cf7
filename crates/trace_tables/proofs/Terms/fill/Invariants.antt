-- `trace_tables::Terms::fill` meets its contract. The loop keeps: the first i places are filled. Assumes nothing.
use Rattle.trace_tables.specs.Fixed.{Upto}
use Rattle.trace_tables.proofs.Terms.fill.Given as goal

abbrev pub invariant-loop-i : goal.invariant-loop-i
invariant-loop-i l = Upto l.self.problem.nodes.now l.self.problem.bits.now l.self.widths.now l.entries l.i l.x-items
