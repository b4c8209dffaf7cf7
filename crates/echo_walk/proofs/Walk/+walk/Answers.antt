use Prim.Native.Nat.{◌+◌, ◌-◌}
use mathlib.Core.Path.{◌≡◌, sym, ◌∙◌}
use native.Mathlib.Omega.{arith}
use Rattle.echo_bytes.specs.Laws.{written_then}
use Rattle.echo_walk.specs.Texts.{one_text, two_text, choice_text, form_text}
use Rattle.echo_walk.proofs.Laws.{lower, fewer, listed, part-short, part-entry, part-all, args-last, args-step, begun, begun-next, begun-none, begun_all, chained-index, chained-value, levels-none, levels-step, leaf-found, leaf-written, form-under, node_in, node-leaf}
use Rattle.echo_walk.proofs.Walk.+walk.Goals as goal

pub echo_operand-echo_leaf-requires : goal.echo_operand-echo_leaf-requires
echo_operand-echo_leaf-requires t c =
    leaf-found c.args.self.now c.args.x c.requires c.is_leaf.ensures c.if-is_leaf.true

pub echo_operand-returns-then-is_leaf : goal.echo_operand-returns-then-is_leaf
echo_operand-returns-then-is_leaf t c =
    leaf-written c.args.self.now c.args.x (leaf-found c.args.self.now c.args.x c.requires c.is_leaf.ensures c.if-is_leaf.true) _ c.echo_leaf.ensures

pub echo_operand-echo_node-requires : goal.echo_operand-echo_node-requires
echo_operand-echo_node-requires t c =
    (fewer _ _ _ c.decreases (omega arith), c.requires)

pub echo_operand-returns : goal.echo_operand-returns
echo_operand-returns t c =
    c.echo_node.ensures

pub echo_levels-loop-left-init : goal.echo_levels-loop-left-init
echo_levels-loop-left-init t c =
    begun _ (omega arith)

pub echo_levels-echo_two-r-requires : goal.echo_levels-echo_two-r-requires
echo_levels-echo_two-r-requires t c =
    (fewer _ _ _ c.decreases (omega arith), (chained-index c.requires (c.loop-left.left - 1) (omega arith) c.get-x.ensures, chained-value c.requires (c.loop-left.left - 1) (omega arith) c.get-v.ensures))

pub echo_levels-loop-left-preserved : goal.echo_levels-loop-left-preserved
echo_levels-loop-left-preserved t c =
    begun-next c.loop-left.invariant _ _ (levels-step _ _ _ (c.loop-left.left - 1) (omega arith) c.get-x.ensures c.get-v.ensures) c.echo_two-r.ensures

pub echo_levels-returns : goal.echo_levels-returns
echo_levels-returns t c =
    begun-none c.loop-left.invariant (levels-none _ _ _ (omega arith))

pub echo_args-loop-x-init : goal.echo_args-loop-x-init
echo_args-loop-x-init t c =
    let a : c.args.s + 0 ≡ c.args.s = omega arith in
    let b : c.args.n - 0 ≡ c.args.n = omega arith in
    rw (a, b) (begun _ (omega arith))

pub echo_args-echo_operand-r-requires : goal.echo_args-echo_operand-r-requires
echo_args-echo_operand-r-requires t c =
    let x = listed c.requires c.loop-x.x-index (part-short c.args.self.now.problem.now.side.now c.args.s c.args.n c.stretch-x-items.ensures c.loop-x.x-index c.loop-x-test.true) (part-entry c.args.self.now.problem.now.side.now c.args.s c.args.n c.stretch-x-items.ensures c.loop-x.x-index c.loop-x-test.true) in
    (lower _ _ _ _ c.decreases x.below (omega arith), x.fine)

pub echo_args-loop-x-preserved : goal.echo_args-loop-x-preserved
echo_args-loop-x-preserved t c =
    begun-next c.loop-x.invariant _ _ (args-step _ _ _ _ c.loop-x.x-index (part-short c.args.self.now.problem.now.side.now c.args.s c.args.n c.stretch-x-items.ensures c.loop-x.x-index c.loop-x-test.true) (part-entry c.args.self.now.problem.now.side.now c.args.s c.args.n c.stretch-x-items.ensures c.loop-x.x-index c.loop-x-test.true)) c.echo_operand-r.ensures

pub echo_args-returns : goal.echo_args-returns
echo_args-returns t c =
    begun_all c.loop-x.invariant (args-last _ _ _ _ (part-all c.args.self.now.problem.now.side.now c.args.s c.args.n c.stretch-x-items.ensures c.loop-x.x-index c.requires c.loop-x-test.false) _ c.byte.ensures)

pub echo_node-open_head-q-requires : goal.echo_node-open_head-q-requires
echo_node-open_head-q-requires t c =
    c.requires

pub echo_node-operands_at-f-requires : goal.echo_node-operands_at-f-requires
echo_node-operands_at-f-requires t c =
    c.requires.here

pub echo_node-echo_one-requires : goal.echo_node-echo_one-requires
echo_node-echo_one-requires t c =
    (fewer _ _ _ c.decreases (omega arith), ((form-under c.args.self.now c.args.i c.requires (sym c.in-One.is ∙ c.operands_at-f.ensures))))

pub echo_node-echo_two-requires : goal.echo_node-echo_two-requires
echo_node-echo_two-requires t c =
    let x = (form-under c.args.self.now c.args.i c.requires (sym c.in-Two.is ∙ c.operands_at-f.ensures)) in (fewer _ _ _ c.decreases (omega arith), (x.0, x.1))

pub echo_node-echo_operand-r-requires : goal.echo_node-echo_operand-r-requires
echo_node-echo_operand-r-requires t c =
    let x = (form-under c.args.self.now c.args.i c.requires (sym c.in-Choice.is ∙ c.operands_at-f.ensures)) in (lower _ _ _ _ c.decreases x.0.below (omega arith), x.0.fine)

pub echo_node-echo_two-requires-in-Choice : goal.echo_node-echo_two-requires-in-Choice
echo_node-echo_two-requires-in-Choice t c =
    let x = (form-under c.args.self.now c.args.i c.requires (sym c.in-Choice.is ∙ c.operands_at-f.ensures)) in (fewer _ _ _ c.decreases (omega arith), (x.1, x.2))

pub echo_node-echo_levels-r-requires : goal.echo_node-echo_levels-r-requires
echo_node-echo_levels-r-requires t c =
    (fewer _ _ _ c.decreases (omega arith), ((form-under c.args.self.now c.args.i c.requires (sym c.in-Chain.is ∙ c.operands_at-f.ensures)).1))

pub echo_node-echo_one-requires-in-Chain : goal.echo_node-echo_one-requires-in-Chain
echo_node-echo_one-requires-in-Chain t c =
    (fewer _ _ _ c.decreases (omega arith), ((form-under c.args.self.now c.args.i c.requires (sym c.in-Chain.is ∙ c.operands_at-f.ensures)).0))

pub echo_node-echo_args-requires : goal.echo_node-echo_args-requires
echo_node-echo_args-requires t c =
    (fewer _ _ _ c.decreases (omega arith), ((form-under c.args.self.now c.args.i c.requires (sym c.in-Arguments.is ∙ c.operands_at-f.ensures))))

pub echo_node-returns-in-Leaf : goal.echo_node-returns-in-Leaf
echo_node-returns-in-Leaf t c =
    node-leaf c.args.self.now c.args.i c.requires.here (sym c.in-Leaf.is ∙ c.operands_at-f.ensures) _ c.open_head-q.ensures

pub echo_node-returns-in-One : goal.echo_node-returns-in-One
unfolding form_text
echo_node-returns-in-One t c =
    node_in c.args.self.now c.args.i c.requires.here (sym c.in-One.is ∙ c.operands_at-f.ensures) _ c.open_head-q.ensures c.echo_one.ensures

pub echo_node-returns-in-Two : goal.echo_node-returns-in-Two
unfolding form_text
echo_node-returns-in-Two t c =
    node_in c.args.self.now c.args.i c.requires.here (sym c.in-Two.is ∙ c.operands_at-f.ensures) _ c.open_head-q.ensures c.echo_two.ensures

pub echo_node-returns-in-Choice : goal.echo_node-returns-in-Choice
unfolding form_text choice_text
echo_node-returns-in-Choice t c =
    node_in c.args.self.now c.args.i c.requires.here (sym c.in-Choice.is ∙ c.operands_at-f.ensures) _ c.open_head-q.ensures (written_then _ _ _ c.echo_operand-r.ensures c.echo_two-in-Choice.ensures)

pub echo_node-returns-in-Chain : goal.echo_node-returns-in-Chain
unfolding form_text
echo_node-returns-in-Chain t c =
    node_in c.args.self.now c.args.i c.requires.here (sym c.in-Chain.is ∙ c.operands_at-f.ensures) _ c.open_head-q.ensures (written_then _ _ _ c.echo_levels-r.ensures c.echo_one-in-Chain.ensures)

pub echo_node-returns-in-Arguments : goal.echo_node-returns-in-Arguments
unfolding form_text
echo_node-returns-in-Arguments t c =
    node_in c.args.self.now c.args.i c.requires.here (sym c.in-Arguments.is ∙ c.operands_at-f.ensures) _ c.open_head-q.ensures c.echo_args.ensures

pub echo_one-echo_operand-q-requires : goal.echo_one-echo_operand-q-requires
echo_one-echo_operand-q-requires t c =
    (lower _ _ _ _ c.decreases c.requires.below (omega arith), c.requires.fine)

pub echo_one-returns : goal.echo_one-returns
unfolding one_text
echo_one-returns t c =
    written_then _ _ _ c.echo_operand-q.ensures c.byte.ensures

pub echo_two-echo_operand-q-requires : goal.echo_two-echo_operand-q-requires
echo_two-echo_operand-q-requires t c =
    (lower _ _ _ _ c.decreases c.requires.0.below (omega arith), c.requires.0.fine)

pub echo_two-echo_one-requires : goal.echo_two-echo_one-requires
echo_two-echo_one-requires t c =
    (fewer _ _ _ c.decreases (omega arith), c.requires.1)

pub echo_two-returns : goal.echo_two-returns
unfolding two_text
echo_two-returns t c =
    written_then _ _ _ c.echo_operand-q.ensures c.echo_one.ensures
