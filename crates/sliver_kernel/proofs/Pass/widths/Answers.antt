-- `sliver_kernel::Pass::widths` meets its contract. The loop keeps: the first i places have the widths of the first i nodes. Assumes nothing.
use native.Mathlib.Omega.{arith}
use mathlib.Core.Path.{◌≡◌, sym, ◌∙◌}
use lib.ListN.{get_or}
use lib.Seq.{length-take-le}
use Rattle.echo_spec.specs.Input.{no_node, nodes_of}
use Rattle.lent.specs.Records.{node_of, nodes-length, nodes-at}
use Rattle.sliver_kernel.proofs.Passing.{going_start, going_next, going-stops, going-ends}
use Rattle.sliver_kernel.proofs.Pass.widths.Goals as goal

pub loop-i-init : goal.loop-i-init
loop-i-init c = going_start c.node_count-count.ensures

pub node_at-node-requires : goal.node_at-node-requires
node_at-node-requires c = omega (arith, nodes-length c.args.nodes.now)

pub slice_bounds-node_width-end-in-loop-i : goal.slice_bounds-node_width-end-in-loop-i
slice_bounds-node_width-end-in-loop-i c = sym (length-take-le c.loop-i.i c.loop-i.ws (omega arith))

pub returns-in_default : goal.returns-in_default
returns-in_default c =
    let taken : get_or (nodes_of ((c.args.nodes.now))) c.loop-i.i no_node ≡ node_of c.node_at-node.result = nodes-at ((c.args.nodes.now)) no_node _ (omega (arith, nodes-length ((c.args.nodes.now)))) ∙ sym c.node_at-node.ensures in
    going-stops c.loop-i.invariant c.requires _ taken c.loop-i-test.true (sym c.in_default.is ∙ c.node_width.ensures)

pub loop-i-preserved : goal.loop-i-preserved
loop-i-preserved c =
    let taken : get_or (nodes_of ((c.args.nodes.now))) c.loop-i.i no_node ≡ node_of c.node_at-node.result = nodes-at ((c.args.nodes.now)) no_node _ (omega (arith, nodes-length ((c.args.nodes.now)))) ∙ sym c.node_at-node.ensures in
    going_next c.loop-i.invariant c.requires _ taken c.loop-i-test.true (sym c.in-Some.is ∙ c.node_width.ensures)

pub returns : goal.returns
returns c = going-ends c.loop-i.invariant c.requires c.loop-i-test.false
