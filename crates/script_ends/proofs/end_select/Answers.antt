-- `end_select` meets its contract: the constants among the operands have their nodes, and then the select has its own.
use Rattle.std.proofs.Common.{◌*◌, ◌∙◌, ◌++◌, map, get_or}
use Rattle.std.proofs.lemmas.List.{length-map}
use Rattle.std.proofs.lemmas.Result.{err_from_is_err_and}
use Rattle.readback.specs.Rebuild.{a_select, with_constants, node_of}
use Rattle.heap_laws.specs.Heap.{pending_in, pairs_back}
use Rattle.script_heap.specs.Laws.{told-own}
use Rattle.script_ends.specs.Ends.{settle-fails, all-ended, ended-told, behind, nodes_of}
use Rattle.script_ends.proofs.end_select.Goals as goal

pub returns-in_err-settle_all : goal.returns-in_err-settle_all
returns-in_err-settle_all c = λ s refs rs e l. rw (err_from_is_err_and c.from_residual.result c.from_residual.ensures.1).1 (settle-fails e (λ node. a_select c.args.array (get_or (map node rs) (2 * c.args.stores) 0) (pairs_back c.args.stores (map node rs))) c.settle_all.new.heap _ (c.in_err-settle_all.ensures s (refs ++ rs) e.held e.stacked))

pub returns : goal.returns
returns c =
    λ s refs rs e l.
    (let (h, k) = all-ended e c.settle_all.new.heap (c.in_ok-settle_all.ensures s (refs ++ rs) e.held e.stacked) in
    ended-told e (λ node. a_select c.args.array (get_or (map node rs) (2 * c.args.stores) 0) (pairs_back c.args.stores (map node rs))) c.settle_all.new.heap c.add_select.new.heap c.add_select.result k
    (told-own c.settle_all.new.heap c.add_select.new.heap c.args.base _ _ c.add_select.result c.add_select.ensures.bits
    (c.add_select.ensures.told c.settle_all.new.heap.bits (with_constants (pending_in rs) s) c.args.script.now _ (nodes_of (with_constants (pending_in rs) s) rs) h k (behind refs (nodes_of (with_constants (pending_in rs) s) rs) c.args.base k e.below).0
    (length-map rs (node_of (with_constants (pending_in rs) s)) ∙ l))))
