-- `lent::node_of` meets its contract. Assumes nothing.
use mathlib.Core.Path.{sym, ◌∙◌}
use native.Mathlib.Omega.{arith}
use lib.ListN.{get_or-eq_default}
use Rattle.echo_spec.specs.Input.{no_node, nodes_of}
use Rattle.lent.specs.Records.{nodes-length, nodes-at}
use Rattle.lent.proofs.node_of.Goals as goal

pub node_at-requires : goal.node_at-requires
node_at-requires c =
    let args = c.args in
    omega (arith, nodes-length args.nodes.now)

pub returns-then-i-node_count : goal.returns-then-i-node_count
returns-then-i-node_count c =
    let args = c.args in
    c.node_at.ensures ∙ sym (nodes-at args.nodes.now no_node _ (omega (arith, nodes-length args.nodes.now)))

pub returns-else-i-node_count : goal.returns-else-i-node_count
returns-else-i-node_count c =
    let args = c.args in
    sym (get_or-eq_default (nodes_of args.nodes.now) no_node (omega arith))
