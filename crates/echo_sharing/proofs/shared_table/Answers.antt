-- `shared_table` meets its contract: the first nodes have their flags, and no other has.
use Rattle.std.proofs.Common.{◌∙◌, ap, Bool, false, not, arith, length-set}
use Rattle.std.proofs.lemmas.List.{length-replicate}
use Rattle.echo_spec.specs.Input.{nodes_of}
use Rattle.lent.specs.Records.{nodes-length}
use Rattle.echo_sharing.specs.Counts.{once_in, once-here}
use Rattle.echo_sharing.specs.Flags.{flags-none, flags-more}
use Rattle.echo_sharing.proofs.shared_table.Goals as goal

pub loop-i-init : goal.loop-i-init
loop-i-init c = (length-replicate {A = Bool} 2048 false, flags-none (λ j. not (once_in c.args.uses.now (nodes_of c.args.nodes.now) j)) 2048)

pub node_at-node-requires : goal.node_at-node-requires
node_at-node-requires c = omega (arith, nodes-length c.args.nodes.now)

pub loop-i-preserved : goal.loop-i-preserved
loop-i-preserved c = (
  length-set c.loop-i.shared c.loop-i.i _ ∙ c.loop-i.invariant.0,
  flags-more (λ j. not (once_in c.args.uses.now (nodes_of c.args.nodes.now) j)) (omega arith)
      (ap not (once-here _ c.args.nodes.now _ (omega arith) c.node_at-node.ensures c.used_once.ensures)) c.loop-i.invariant.1,
)
