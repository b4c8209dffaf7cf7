-- `end_call` meets its contract: the constants among the arguments have their nodes, and then the call has its own.
use Rattle.std.proofs.Common.{◌++◌, map}
use Rattle.std.proofs.lemmas.Result.{err_from_is_err_and}
use Rattle.readback.specs.Rebuild.{a_call, with_constants}
use Rattle.heap_laws.specs.Heap.{pending_in}
use Rattle.script_heap.specs.Laws.{told-own}
use Rattle.script_ends.specs.Ends.{settle-fails, all-ended, ended-told, behind, nodes_of}
use Rattle.script_ends.proofs.end_call.Goals as goal

pub returns-in_err-settle_all : goal.returns-in_err-settle_all
returns-in_err-settle_all c = λ s refs rs e. rw (err_from_is_err_and c.from_residual.result c.from_residual.ensures.1).1 (settle-fails e (λ node. a_call c.args.g c.args.width (map node rs)) c.settle_all.new.heap _ (c.in_err-settle_all.ensures s (refs ++ rs) e.held e.stacked))

pub returns : goal.returns
returns c =
    λ s refs rs e.
    (let (h, k) = all-ended e c.settle_all.new.heap (c.in_ok-settle_all.ensures s (refs ++ rs) e.held e.stacked) in
    ended-told e (λ node. a_call c.args.g c.args.width (map node rs)) c.settle_all.new.heap c.add_call.new.heap c.add_call.result k
    (told-own c.settle_all.new.heap c.add_call.new.heap c.args.base _ _ c.add_call.result c.add_call.ensures.bits
    (c.add_call.ensures.told c.settle_all.new.heap.bits (with_constants (pending_in rs) s) c.args.script.now _ (nodes_of (with_constants (pending_in rs) s) rs) h k (behind refs (nodes_of (with_constants (pending_in rs) s) rs) c.args.base k e.below).0)))
