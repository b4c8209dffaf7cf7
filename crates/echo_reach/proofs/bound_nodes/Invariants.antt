-- `bound_nodes` meets its contract: from the root down, the nodes that are reached are marked.
use Rattle.lent.specs.Lent.{dag_at}
use Rattle.echo_reach.specs.Marks.{Reaching, NoneAbove}
use Rattle.echo_reach.proofs.bound_nodes.Given as goal

abbrev pub invariant-loop-i : goal.invariant-loop-i
invariant-loop-i l = Reaching (dag_at l.problem) l.root l.i l.bound × NoneAbove l.root l.bound
