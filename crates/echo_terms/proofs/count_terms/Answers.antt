-- `echo_terms::count_terms` meets its contract. The loop keeps: the table has the counts of the first i nodes. Assumes nothing.
use Rattle.std.proofs.Common.{arith}
use Rattle.lent.specs.Records.{nodes-length}
use Rattle.echo_terms.specs.TermTable.{filled_none, node-within, filled_next, filled-sum}
use Rattle.echo_terms.proofs.count_terms.Goals as goal

pub loop-i-init : goal.loop-i-init
loop-i-init c = filled_none _ _

pub node_at-requires : goal.node_at-requires
node_at-requires c = omega (arith, nodes-length c.args.problem.now.nodes.now)

pub node_terms-requires : goal.node_terms-requires
node_terms-requires c = node-within c.requires c.loop-i.invariant (omega arith) c.node_at.ensures

pub offset_bounds-t-i : goal.offset_bounds-t-i
offset_bounds-t-i c = omega (arith, nodes-length c.args.problem.now.nodes.now)

pub bounds-t-i : goal.bounds-t-i
bounds-t-i c = omega (arith, nodes-length c.args.problem.now.nodes.now)

pub loop-i-preserved : goal.loop-i-preserved
loop-i-preserved c = filled_next c.requires c.loop-i.invariant (omega arith) c.node_at.ensures c.node_terms.ensures

pub returns : goal.returns
returns c = filled-sum c.loop-i.invariant (omega arith) c.args.problem.now.roots.now c.add_each.ensures
