-- `blast_kernel::nodes_encoded` meets its contract: the whole list passes where what is left of it does. Assumes nothing.
use Rattle.std.proofs.Common.{◌≡◌, ◌<◌, ◌∙◌, ap, sym, arith, length, get_or}
use Rattle.echo_spec.specs.Input.{no_node, node_encoded, nodes_of}
use Rattle.lent.specs.Records.{nodes-length, nodes-at}
use Rattle.blast_kernel.specs.Every.{left-next, left-fails}
use Rattle.blast_kernel.proofs.nodes_encoded.Goals as goal

pub node_at-requires : goal.node_at-requires
node_at-requires c = omega (arith, nodes-length c.args.nodes.now)

pub returns-then-not-node_encoded : goal.returns-then-not-node_encoded
returns-then-not-node_encoded c =
    let l : c.loop-i.i < length (nodes_of c.args.nodes.now) = omega arith in
    let e : get_or (nodes_of c.args.nodes.now) c.loop-i.i no_node ≡ _ = nodes-at c.args.nodes.now no_node c.loop-i.i (omega (arith, nodes-length c.args.nodes.now)) ∙ sym c.node_at.ensures in
    sym (left-fails node_encoded no_node (record { rest = c.loop-i.invariant }) l (ap node_encoded e ∙ sym c.node_encoded.ensures ∙ c.if-not-node_encoded.true))

pub loop-i-preserved : goal.loop-i-preserved
loop-i-preserved c =
    let l : c.loop-i.i < length (nodes_of c.args.nodes.now) = omega arith in
    let e : get_or (nodes_of c.args.nodes.now) c.loop-i.i no_node ≡ _ = nodes-at c.args.nodes.now no_node c.loop-i.i (omega (arith, nodes-length c.args.nodes.now)) ∙ sym c.node_at.ensures in
    (left-next node_encoded no_node (record { rest = c.loop-i.invariant }) l (ap node_encoded e ∙ sym c.node_encoded.ensures ∙ c.if-not-node_encoded.false)).rest
