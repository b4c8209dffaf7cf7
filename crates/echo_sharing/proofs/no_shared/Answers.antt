-- `no_shared` meets its contract: the nodes from i on decide the answer.
use Rattle.std.proofs.Common.{arith}
use Rattle.lent.specs.Records.{nodes-length}
use Rattle.echo_sharing.specs.Counts.{once-first, once-pass, once-fail, once-end}
use Rattle.echo_sharing.proofs.no_shared.Goals as goal

pub loop-i-init : goal.loop-i-init
loop-i-init c = once-first _ _

pub node_at-node-requires : goal.node_at-node-requires
node_at-node-requires c = omega (arith, nodes-length c.args.nodes.now)

pub returns-then-not-used_once : goal.returns-then-not-used_once
returns-then-not-used_once c =
    once-fail _ _ c.loop-i.i c.loop-i.invariant (omega arith) c.node_at-node.ensures c.used_once.ensures c.if-not-used_once.true

pub loop-i-preserved : goal.loop-i-preserved
loop-i-preserved c =
    once-pass _ _ c.loop-i.i c.loop-i.invariant (omega arith) c.node_at-node.ensures c.used_once.ensures c.if-not-used_once.false

pub returns : goal.returns
returns c = once-end _ _ c.loop-i.i c.loop-i.invariant (omega arith)
