use Prim.Native.Nat.{◌-◌}
use mathlib.Core.Path.{◌≡◌, refl, sym, ap, ◌∙◌}
use native.Mathlib.Omega.{arith}
use Rattle.lists.specs.Bytes.{bytes}
use Rattle.echo_bytes.specs.Laws.{written_then}
use Rattle.echo_walk.proofs.Heads.{shape-of}
use Rattle.echo_walk.proofs.Laws.{lower, fewer, begun, leaf-found, term_found}
use Rattle.echo_spec.specs.Input.{Node}
use Rattle.echo_pieces.specs.Pieces.{count_of}
use Rattle.echo_pieces.specs.Signs.{sign_of, level_of}
use Rattle.echo_openings.specs.NodeText.{level-bound}
use Rattle.echo_formula.proofs.Writing.{leaf-done, node-inside, both_under, one_under, prefix-done, own-low, infix-done, entry_at, chain_next, chain-done, args_none, args-next, args-done, chain-all, args-all, count_fits, wanted_at, next-written, all-written, last-all, level-low, level-own, sign-own, extraction-form, select-form, call-form, first-form, named-own, named-done, under, form-own, form-is, form-inside, form-under, other-done}
use Rattle.echo_formula.specs.Texts.{form_at}
use Rattle.echo_formula.proofs.+formula.Goals as goal

-- ---------------------------------------------------------------- operators between their operands

pub formula_infix-node-n-requires : goal.formula_infix-node-n-requires
formula_infix-node-n-requires t c = node-inside c.args.walk.now c.args.i c.requires.fine.0

pub formula_infix-formula_node-b-requires : goal.formula_infix-formula_node-b-requires
formula_infix-formula_node-b-requires t c =
    let x = (both_under c.args.walk.now c.args.i c.requires.fine.0 c.node-n.ensures c.requires.fine.1).0 in
    (lower _ _ _ _ c.decreases x.below (omega arith), (x.fine, omega (arith, own-low c.args.walk.now c.args.i c.requires.fine.0 c.node-n.ensures c.requires.fine.1 c.requires.own)))

pub formula_infix-formula_node-d-requires : goal.formula_infix-formula_node-d-requires
formula_infix-formula_node-d-requires t c =
    let x = (both_under c.args.walk.now c.args.i c.requires.fine.0 c.node-n.ensures c.requires.fine.1).1 in
    (lower _ _ _ _ c.decreases x.below (omega arith), (x.fine, omega (arith, own-low c.args.walk.now c.args.i c.requires.fine.0 c.node-n.ensures c.requires.fine.1 c.requires.own)))

pub formula_infix-returns : goal.formula_infix-returns
formula_infix-returns t c =
    infix-done c.args.walk.now c.args.i c.requires.fine.0 c.node-n.ensures c.requires.fine.1 c.requires.own c.args.l c.requires.sign _ c.push_bracket-a.ensures c.formula_node-b.ensures c.push_between-c.ensures c.formula_node-d.ensures c.push_bracket.ensures

-- ---------------------------------------------------------------- stores and arguments

pub formula_last-formula_node-q-requires : goal.formula_last-formula_node-q-requires
formula_last-formula_node-q-requires t c = (lower _ _ _ _ c.decreases c.requires.below (omega arith), (c.requires.fine, omega arith))

pub formula_last-returns : goal.formula_last-returns
unfolding bytes
formula_last-returns t c = written_then _ _ _ c.formula_node-q.ensures c.byte.ensures

pub formula_chain-loop-left-init : goal.formula_chain-loop-left-init
formula_chain-loop-left-init t c = begun _ (omega arith)

pub formula_chain-formula_node-a-requires : goal.formula_chain-formula_node-a-requires
formula_chain-formula_node-a-requires t c =
    let x = entry_at c.requires.1 _ (omega arith) c.get-x.ensures in (lower _ _ _ _ c.decreases x.below (omega arith), (x.fine, omega arith))

pub formula_chain-formula_node-c-requires : goal.formula_chain-formula_node-c-requires
formula_chain-formula_node-c-requires t c =
    let x = entry_at c.requires.1 _ (omega arith) c.get-v.ensures in (lower _ _ _ _ c.decreases x.below (omega arith), (x.fine, omega arith))

pub formula_chain-loop-left-preserved : goal.formula_chain-loop-left-preserved
formula_chain-loop-left-preserved t c =
    chain_next c.args.walk.now c.args.j c.args.s c.loop-left.left (omega arith) c.get-x.ensures c.get-v.ensures c.loop-left.invariant c.formula_node-a.ensures c.word-b.ensures c.formula_node-c.ensures c.word-d.ensures

pub formula_chain-formula_node-a-requires-2 : goal.formula_chain-formula_node-a-requires-2
formula_chain-formula_node-a-requires-2 t c =
    (lower _ _ _ _ c.decreases c.requires.0.below (omega arith), (c.requires.0.fine, omega arith))

pub formula_chain-returns : goal.formula_chain-returns
formula_chain-returns t c =
    chain-done c.args.walk.now c.args.j c.args.s c.loop-left.left (omega arith) c.loop-left.invariant c.formula_node-a-2.ensures c.byte.ensures

pub formula_args-returns-then-n-eq0 : goal.formula_args-returns-then-n-eq0
formula_args-returns-then-n-eq0 t c = args_none c.args.walk.now _ c.if-n-eq0.true _ _ (omega arith)

pub formula_args-loop-k-init : goal.formula_args-loop-k-init
formula_args-loop-k-init t c = begun _ (omega arith)

pub formula_args-formula_node-a-requires : goal.formula_args-formula_node-a-requires
formula_args-formula_node-a-requires t c =
    let x = entry_at c.requires c.loop-k.k (omega arith) c.get-x.ensures in (lower _ _ _ _ c.decreases x.below (omega arith), (x.fine, omega arith))

pub formula_args-loop-k-preserved : goal.formula_args-loop-k-preserved
formula_args-loop-k-preserved t c =
    args-next c.args.walk.now c.args.s c.args.n c.loop-k.k c.get-x.ensures c.loop-k.invariant (omega arith) c.formula_node-a.ensures c.word-b.ensures

pub formula_args-formula_node-a-requires-2 : goal.formula_args-formula_node-a-requires-2
formula_args-formula_node-a-requires-2 t c =
    let x = entry_at c.requires _ (omega arith) c.get-y.ensures in (lower _ _ _ _ c.decreases x.below (omega arith), (x.fine, omega arith))

pub formula_args-returns : goal.formula_args-returns
formula_args-returns t c =
    let e : c.args.n - 1 ≡ c.loop-k.k = omega arith in
    args-done c.args.walk.now c.args.s c.args.n c.loop-k.k (rw e at c.get-y.ensures) c.loop-k.invariant (omega arith) c.formula_node-a-2.ensures c.byte.ensures

-- ---------------------------------------------------------------- the operands of a form

pub formula_operands-loop-k-init : goal.formula_operands-loop-k-init
formula_operands-loop-k-init t c = begun _ (omega arith)

pub formula_operands-operand_at-x-requires : goal.formula_operands-operand_at-x-requires
formula_operands-operand_at-x-requires t c = (c.requires.0, omega (arith, c.requires.1))

pub formula_operands-formula_node-a-requires : goal.formula_operands-formula_node-a-requires
formula_operands-formula_node-a-requires t c =
    let x = wanted_at c.args.walk.now c.args.kind (level_of c.args.kind) (form_at c.args.walk.now c.args.i) {k = c.loop-k.k} (omega (arith, c.requires.1)) {x = c.operand_at-x.result} (rw c.requires.2 c.operand_at-x.ensures) (level-bound c.args.kind) (under c.args.walk.now c.args.i c.requires.0) in
    (lower _ _ _ _ c.decreases x.node_is.below (omega arith), (x.node_is.fine, x.level_is))

pub formula_operands-loop-k-preserved : goal.formula_operands-loop-k-preserved
formula_operands-loop-k-preserved t c =
    next-written c.args.walk.now c.args.kind (level_of c.args.kind) (form_at c.args.walk.now c.args.i) {k = c.loop-k.k} (omega (arith, c.requires.1)) (rw c.requires.2 c.operand_at-x.ensures) c.loop-k.invariant c.formula_node-a.ensures c.push_behind-b.ensures

pub formula_operands-returns : goal.formula_operands-returns
formula_operands-returns t c = all-written c.args.walk.now c.args.kind (level_of c.args.kind) (form_at c.args.walk.now c.args.i) (omega (arith, c.requires.1)) c.loop-k.invariant

-- ---------------------------------------------------------------- nodes

pub formula_other-node-n-requires : goal.formula_other-node-n-requires
formula_other-node-n-requires t c = node-inside c.args.walk.now c.args.i c.requires.0

pub formula_other-count-requires : goal.formula_other-count-requires
formula_other-count-requires t c = count_fits c.args.walk.now _ (form-inside c.args.walk.now c.args.i c.requires.0 c.node-n.ensures c.operands.ensures)

pub formula_other-formula_operands-c-requires : goal.formula_other-formula_operands-c-requires
formula_other-formula_operands-c-requires t c =
    let e = c.node-n.ensures in
    (fewer _ _ _ c.decreases (omega arith), (c.requires.0, c.count.ensures ∙ ap count_of (form-is c.args.walk.now c.args.i c.requires.0 e c.operands.ensures), ap (λ (n : Node). n.kind) e))

pub formula_other-returns : goal.formula_other-returns
formula_other-returns t c =
    other-done c.args.walk.now c.args.i c.requires.0 c.node-n.ensures (form-own c.args.walk.now c.args.i c.requires.0 c.node-n.ensures) c.level-own.ensures c.args.l _ c.push_bracket-a.ensures c.open_term-b.ensures c.formula_operands-c.ensures c.push_bracket.ensures

pub formula_prefix-node-n-requires : goal.formula_prefix-node-n-requires
formula_prefix-node-n-requires t c = node-inside c.args.walk.now c.args.i c.requires.fine.0

pub formula_prefix-formula_node-c-requires : goal.formula_prefix-formula_node-c-requires
formula_prefix-formula_node-c-requires t c =
    let x = one_under c.args.walk.now c.args.i c.requires.fine.0 c.node-n.ensures c.requires.fine.1 in
    (lower _ _ _ _ c.decreases x.below (omega arith), (x.fine, omega arith))

pub formula_prefix-returns : goal.formula_prefix-returns
formula_prefix-returns t c =
    prefix-done c.args.walk.now c.args.i c.requires.fine.0 c.node-n.ensures c.requires.fine.1 c.args.l c.requires.sign _ c.push_bracket-a.ensures c.word-b.ensures c.formula_node-c.ensures c.push_bracket.ensures

pub formula_named-node-n-requires : goal.formula_named-node-n-requires
formula_named-node-n-requires t c = node-inside c.args.walk.now c.args.i c.requires.0

pub formula_named-formula_last-requires : goal.formula_named-formula_last-requires
formula_named-formula_last-requires t c =
    let x = first-form c.args.walk.now c.args.i c.requires.0 c.node-n.ensures (shape-of c.args.walk.now c.args.i c.requires.1.here c.requires.1.taken c.mark.ensures refl) c.in-Rotation.is in
    (fewer _ _ _ c.decreases (omega arith), form-under c.args.walk.now c.args.i c.requires.0 c.node-n.ensures x.1)

pub formula_named-formula_last-requires-in-Extraction : goal.formula_named-formula_last-requires-in-Extraction
formula_named-formula_last-requires-in-Extraction t c =
    let x = extraction-form c.args.walk.now c.args.i c.requires.0 c.node-n.ensures (shape-of c.args.walk.now c.args.i c.requires.1.here c.requires.1.taken c.mark.ensures c.in-Extraction.is) in
    (fewer _ _ _ c.decreases (omega arith), form-under c.args.walk.now c.args.i c.requires.0 c.node-n.ensures x.1)

pub formula_named-formula_chain-requires : goal.formula_named-formula_chain-requires
formula_named-formula_chain-requires t c =
    let x = select-form c.args.walk.now c.args.i c.requires.0 c.node-n.ensures (shape-of c.args.walk.now c.args.i c.requires.1.here c.requires.1.taken c.mark.ensures c.in-Select.is) in
    (fewer _ _ _ c.decreases (omega arith), form-under c.args.walk.now c.args.i c.requires.0 c.node-n.ensures x.1)

pub formula_named-formula_args-requires : goal.formula_named-formula_args-requires
formula_named-formula_args-requires t c =
    let x = call-form c.args.walk.now c.args.i c.requires.0 c.node-n.ensures (shape-of c.args.walk.now c.args.i c.requires.1.here c.requires.1.taken c.mark.ensures c.in-Call.is) (omega arith) in
    (fewer _ _ _ c.decreases (omega arith), form-under c.args.walk.now c.args.i c.requires.0 c.node-n.ensures x.1)

pub formula_named-returns-in-Rotation : goal.formula_named-returns-in-Rotation
formula_named-returns-in-Rotation t c =
    let x = first-form c.args.walk.now c.args.i c.requires.0 c.node-n.ensures (shape-of c.args.walk.now c.args.i c.requires.1.here c.requires.1.taken c.mark.ensures refl) c.in-Rotation.is in
    named-done c.args.walk.now c.args.i c.requires.0 c.node-n.ensures x.1 x.0 c.requires.2 _ (omega arith) c.open_term-b.ensures (last-all c.args.walk.now c.node-n.result.kind (level_of c.node-n.result.kind) _ (named-own c.args.walk.now c.args.i c.requires.0 c.node-n.ensures x.0) refl _ c.formula_last.ensures)

pub formula_named-returns-in-Extraction : goal.formula_named-returns-in-Extraction
formula_named-returns-in-Extraction t c =
    let x = extraction-form c.args.walk.now c.args.i c.requires.0 c.node-n.ensures (shape-of c.args.walk.now c.args.i c.requires.1.here c.requires.1.taken c.mark.ensures c.in-Extraction.is) in
    named-done c.args.walk.now c.args.i c.requires.0 c.node-n.ensures x.1 x.0 c.requires.2 _ (omega arith) c.open_term-b-in-Extraction.ensures (last-all c.args.walk.now c.node-n.result.kind (level_of c.node-n.result.kind) _ (named-own c.args.walk.now c.args.i c.requires.0 c.node-n.ensures x.0) refl _ c.formula_last-in-Extraction.ensures)

pub formula_named-returns-in-Select : goal.formula_named-returns-in-Select
formula_named-returns-in-Select t c =
    let x = select-form c.args.walk.now c.args.i c.requires.0 c.node-n.ensures (shape-of c.args.walk.now c.args.i c.requires.1.here c.requires.1.taken c.mark.ensures c.in-Select.is) in
    named-done c.args.walk.now c.args.i c.requires.0 c.node-n.ensures x.1 x.0 c.requires.2 _ (omega arith) c.open_term-b-in-Select.ensures (chain-all c.args.walk.now c.node-n.result.kind (level_of c.node-n.result.kind) _ refl _ c.formula_chain.ensures)

pub formula_named-returns-in-Call : goal.formula_named-returns-in-Call
formula_named-returns-in-Call t c =
    let x = call-form c.args.walk.now c.args.i c.requires.0 c.node-n.ensures (shape-of c.args.walk.now c.args.i c.requires.1.here c.requires.1.taken c.mark.ensures c.in-Call.is) (omega arith) in
    named-done c.args.walk.now c.args.i c.requires.0 c.node-n.ensures x.1 x.0 c.requires.2 _ (omega arith) c.open_term-b-in-Call.ensures (args-all c.args.walk.now c.node-n.result.kind (level_of c.node-n.result.kind) _ refl _ c.formula_args.ensures)

pub formula_named-formula_other-requires : goal.formula_named-formula_other-requires
formula_named-formula_other-requires t c = (fewer _ _ _ c.decreases (omega arith), (c.requires.0, c.requires.1))

pub formula_node-open_leaf-requires : goal.formula_node-open_leaf-requires
formula_node-open_leaf-requires t c = leaf-found c.args.walk.now c.args.i c.requires.0 c.is_leaf.ensures c.if-is_leaf.true

pub formula_node-returns-then-is_leaf : goal.formula_node-returns-then-is_leaf
formula_node-returns-then-is_leaf t c =
    leaf-done c.args.walk.now c.args.i c.args.l (leaf-found c.args.walk.now c.args.i c.requires.0 c.is_leaf.ensures c.if-is_leaf.true) c.requires.1 _ c.open_leaf.ensures

pub formula_node-formula_named-requires : goal.formula_node-formula_named-requires
formula_node-formula_named-requires t c =
    (fewer _ _ _ c.decreases (omega arith), (c.requires.0, term_found c.args.walk.now c.args.i c.requires.0 c.is_leaf.ensures c.if-is_leaf.false, c.requires.1))

pub formula_node-formula_term-requires : goal.formula_node-formula_term-requires
formula_node-formula_term-requires t c =
    (fewer _ _ _ c.decreases (omega arith), (c.requires.0, term_found c.args.walk.now c.args.i c.requires.0 c.is_leaf.ensures c.if-is_leaf.false))

pub formula_term-node-n-requires : goal.formula_term-node-n-requires
formula_term-node-n-requires t c = node-inside c.args.walk.now c.args.i c.requires.0

pub formula_term-formula_infix-requires : goal.formula_term-formula_infix-requires
formula_term-formula_infix-requires t c =
    let e = c.in-Between.ensures in
    let n = c.node-n.ensures in (
      fewer _ _ _ c.decreases (omega arith),
      (
        (c.requires.0, level-low c.args.walk.now c.args.i c.requires.0 n e.between),
        (level-own c.args.walk.now c.args.i c.requires.0 n e.level, sign-own c.args.walk.now c.args.i c.requires.0 n e.sign),
      ),
    )

pub formula_term-formula_prefix-requires : goal.formula_term-formula_prefix-requires
formula_term-formula_prefix-requires t c =
    let e = c.in-Before.ensures in
    let n = c.node-n.ensures in (
      fewer _ _ _ c.decreases (omega arith),
      ((c.requires.0, sym (level-own c.args.walk.now c.args.i c.requires.0 n e.level)), sign-own c.args.walk.now c.args.i c.requires.0 n e.sign),
    )

pub formula_term-formula_other-requires : goal.formula_term-formula_other-requires
formula_term-formula_other-requires t c = (fewer _ _ _ c.decreases (omega arith), c.requires)
