-- `end_over` meets its contract: the constants among the operands have their nodes, and then the operator has its own, with its operands' nodes in its record.
use Rattle.std.proofs.Common.{ℕ, ◌≡◌, List, [], ◌∷◌, ◌++◌, subst, length, arith}
use Rattle.std.proofs.lemmas.Result.{err_from_is_err_and}
use Rattle.echo_spec.specs.Shapes.{shape_of}
use Rattle.readback.specs.Rebuild.{Item, an_operator, with_constants, node_of, pendings, fields, node_with}
use Rattle.lent.specs.Records as records
use Rattle.heap_laws.specs.Heap.{pending_in}
use Rattle.script_heap.specs.Told.{Told}
use Rattle.script_heap.specs.Laws.{told-own}
use Rattle.script_ends.specs.Ends.{settle-fails, all-ended, ended-told, nodes_of, operator_item, made-over}
use Rattle.script_ends.proofs.end_over.Goals as goal

pub returns-in_err-settle_all : goal.returns-in_err-settle_all
returns-in_err-settle_all c = λ s refs rs ks ms e o. rw (err_from_is_err_and c.from_residual.result c.from_residual.ensures.1).1 (settle-fails e (operator_item c.args.o.kind ks rs ms) c.settle_all.new.heap _ (c.in_err-settle_all.ensures s (refs ++ rs) e.held e.stacked))

pub returns : goal.returns
returns c = λ s refs rs ks ms e o.
    let (h, k) = all-ended e c.settle_all.new.heap (c.in_ok-settle_all.ensures s (refs ++ rs) e.held e.stacked) in
    let t : List Item = with_constants (pending_in rs) s in
    let xs : List ℕ = nodes_of t rs in
    let ns : List ℕ = pendings (node_of t) ms in
    let m = made-over rs o c.operand_or_zero-x.result c.operand_or_zero-y.result c.operand_or_zero-z.result
    (c.operand_or_zero-x.ensures c.args.script.now refs xs 0 k (omega (arith, e.below))) (c.operand_or_zero-y.ensures c.args.script.now refs xs 1 k (omega (arith, e.below)))
    (c.operand_or_zero-z.ensures c.args.script.now refs xs 2 k (omega (arith, e.below))) in
    ended-told e (operator_item c.args.o.kind ks rs ms) c.settle_all.new.heap c.add_operator.new.heap c.add_operator.result k
    (told-own c.settle_all.new.heap c.add_operator.new.heap c.args.base _ _ c.add_operator.result c.add_operator.ensures.bits
    (subst
    (λ (q : ℕ). node_with q (fields (shape_of q) ks xs ns) ≡ records.node_of c.operator_record-n.result
    → Told c.settle_all.new.heap (record c.add_operator.new.heap { bits = c.settle_all.new.heap.bits }) c.args.base (t ++ (an_operator q ks xs ns ∷ [])) (length t) c.add_operator.result)
    c.operator_record-n.ensures.0 (c.add_operator.ensures.told c.settle_all.new.heap.bits t ks xs ns h) (c.operator_record-n.ensures.1 ks xs ns m)))
