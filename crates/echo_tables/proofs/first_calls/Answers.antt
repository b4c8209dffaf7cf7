-- `echo_tables::first_calls` meets its contract. The loop keeps: the table has what a search from node i on finds. Assumes nothing.
use Rattle.std.proofs.Common.{◌≡◌, ◌-◌, ◌∙◌, sym, get_or, arith, eqb-true, length-set}
use Rattle.std.proofs.lemmas.Bool.{eqb-false}
use Rattle.echo_spec.specs.Input.{no_node, nodes_of}
use Rattle.echo_spec.specs.Tables.{call_of}
use Rattle.lent.specs.Records.{node_of, nodes-length, nodes-at}
use Rattle.echo_tables.specs.Found.{filled-end, filled_put, filled-skip, calls-own, calls-none, calls-past, calls-whole, cleared}
use Rattle.echo_tables.proofs.first_calls.Goals as goal
use Rattle.echo_tables.proofs.first_calls.Goals.{else-is_call-via-then-is_call+else-g-lt-MAX_ENTRIES, else-is_call-via-else-is_call}

pub loop-i-init : goal.loop-i-init
loop-i-init c = (omega arith, rw c.node_count-i.ensures (filled-end call_of 512 no_node (nodes_of c.args.nodes.now) (cleared _ c.clear.ensures)))

pub node_at-n-requires : goal.node_at-n-requires
node_at-n-requires c = omega (arith, nodes-length c.args.nodes.now, c.node_count-i.ensures)

pub loop-i-preserved-then-g-lt-MAX_ENTRIES : goal.loop-i-preserved-then-g-lt-MAX_ENTRIES
loop-i-preserved-then-g-lt-MAX_ENTRIES c =
    let is : get_or (nodes_of c.args.nodes.now) (c.loop-i.i - 1) no_node ≡ node_of c.node_at-n.result =
    nodes-at c.args.nodes.now no_node _ (omega (arith, nodes-length c.args.nodes.now, c.node_count-i.ensures)) ∙ sym c.node_at-n.ensures
    in (
      length-set c.loop-i.first _ _ ∙ c.loop-i.invariant.0,
      filled_put call_of 512 no_node (nodes_of c.args.nodes.now) (omega arith) (omega (arith, c.node_count-i.ensures)) c.loop-i.invariant.1
          (omega arith) (calls-own is (eqb-true _ _ (sym c.is_call.ensures ∙ c.if-is_call.true))),
    )

pub returns : goal.returns
returns c = calls-whole _ (omega arith) c.loop-i.invariant.1

pub loop-i-preserved : goal.loop-i-preserved
loop-i-preserved c =
    let is : get_or (nodes_of c.args.nodes.now) (c.loop-i.i - 1) no_node ≡ node_of c.node_at-n.result =
    nodes-at c.args.nodes.now no_node _ (omega (arith, nodes-length c.args.nodes.now, c.node_count-i.ensures)) ∙ sym c.node_at-n.ensures
    in (
      c.loop-i.invariant.0,
      filled-skip call_of 512 no_node (nodes_of c.args.nodes.now) (omega arith) (omega (arith, c.node_count-i.ensures)) c.loop-i.invariant.1
          (elim c.else-is_call.branch [
            | else-is_call-via-then-is_call+else-g-lt-MAX_ENTRIES w ↦ calls-past is (eqb-true _ _ (sym c.is_call.ensures ∙ w.if-is_call.true)) w.if-g-lt-MAX_ENTRIES.false
            | else-is_call-via-else-is_call w ↦ λ g h. calls-none is (eqb-false _ _ (sym c.is_call.ensures ∙ w.if-is_call.false)) g
          ]),
    )
