-- `count_operands` meets its contract: the uses of the nodes from i on, counted from here, are the whole.
use mathlib.Core.Path.{refl}
use native.Mathlib.Omega.{arith}
use Rattle.lent.specs.Records.{nodes-length}
use Rattle.echo_sharing.specs.Counts.{counted_from, node-next, node_end}
use Rattle.echo_sharing.proofs.count_operands.Goals as goal

pub loop-i-init : goal.loop-i-init
unfolding counted_from
loop-i-init c = refl

pub node_at-requires : goal.node_at-requires
node_at-requires c = omega (arith, nodes-length c.args.nodes.now)

pub loop-i-preserved : goal.loop-i-preserved
loop-i-preserved c =
    node-next _ _ _ c.loop-i.i c.loop-i.invariant (omega arith) c.node_at.ensures c.bump_node.ensures

pub returns : goal.returns
returns c = node_end _ _ _ c.loop-i.i c.loop-i.invariant (omega arith)
