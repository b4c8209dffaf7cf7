-- `trace_narrow::roots_narrow` meets its contract. The loop keeps: the first i nodes are marked, and no other. Assumes nothing.
use Rattle.trace_narrow.specs.Marks.{MarkedTo}
use Rattle.trace_narrow.proofs.roots_narrow.Given as goal

abbrev pub invariant-loop-i : goal.invariant-loop-i
invariant-loop-i l = MarkedTo l.nodes l.ws l.i l.marks
