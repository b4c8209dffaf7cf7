-- `echo_terms::count_terms` meets its contract. The loop keeps: the table has the counts of the first i nodes. Assumes nothing.
use Rattle.echo_terms.specs.TermTable.{Filled}
use Rattle.echo_terms.proofs.count_terms.Given as goal

abbrev pub invariant-loop-i : goal.invariant-loop-i
invariant-loop-i l = Filled l.t l.problem.side.now l.problem.nodes.now l.i
