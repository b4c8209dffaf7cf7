-- `blast_kernel::node_encoded` meets its contract: what has none of one to three operands, and some, has four.
use Rattle.std.proofs.Common.{arith, ap, refl, sym, lt-ltb, ◌∙◌, ◌≡◌, ◌≤◌, ◌<◌}
use Rattle.echo_spec.specs.Shapes.{operand_count}
use Rattle.echo_spec.specs.Input.{shape, node_encoded}
use Rattle.lent.specs.Records.{node_of}
use Rattle.blast_kernel.proofs.KindTables.{has_one}
use Rattle.blast_kernel.proofs.node_encoded.Goals as goal

pub returns-in_default : goal.returns-in_default
unfolding node_encoded
returns-in_default c =
    let n = node_of c.args.n in
    let l : n.kind < 39 = c.if-n-ge-KINDS.false in
    let some : 1 ≤ operand_count (shape n) = has_one n.kind l in
    let counted : operand_count (shape n) ≡ c.operand_count.result = sym (c.operand_count.ensures.counted ∙ ap operand_count c.from.ensures.shape) in
    let most = c.operand_count.ensures.at_most_four in
    let e : operand_count (shape n) ≡ 4 = omega (arith, c.in_default) in
    rw (lt-ltb n.kind 39 l, e) refl
