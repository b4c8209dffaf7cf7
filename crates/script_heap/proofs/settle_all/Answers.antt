-- `settle_all` meets its contract: at each turn the operands up to place i are nodes.
use Rattle.std.proofs.Common.{◌<◌, length, get_or, arith}
use Rattle.std.proofs.lemmas.Result.{err_from_is_err_and}
use Rattle.heap_laws.specs.Heap.{ref_at}
use Rattle.heap_laws.specs.Going.{going-none, going-ref, going-over, going_more, going-all, stacked-any}
use Rattle.script_heap.proofs.settle_all.Goals as goal

pub loop-i-init : goal.loop-i-init
loop-i-init c = λ t refs h w. going-none c.args.s.now c.args.base h w

pub settle_one-requires : goal.settle_one-requires
settle_one-requires c = (_, (c.loop-i.invariant c.requires.holds.0 _ c.requires.holds.1 (stacked-any c.args.s.now c.requires.holds.1.stack_long c.requires.room)).held)

pub returns-in_err-m : goal.returns-in_err-m
returns-in_err-m c =
    λ t refs h w.
    (let g = c.loop-i.invariant t refs h w in
    let l : c.loop-i.i < length refs = omega (arith, w.top) in
    let p = err_from_is_err_and c.from_residual.result c.from_residual.ensures.1 in
    rw p.1 (going-over c.args.s.now g l (ref_at c.args.s.now (get_or c.loop-i.heap.stack c.loop-i.i 0)) (going-ref c.args.s.now g l) (c.in_err-m.ensures.told _ g.held)))

pub loop-i-preserved : goal.loop-i-preserved
loop-i-preserved c =
    λ t refs h w.
    (let g = c.loop-i.invariant t refs h w in
    let l : c.loop-i.i < length refs = omega (arith, w.top) in
    let q = c.in_ok-m.ensures.told _ g.held in
    going_more c.args.s.now g l (ref_at c.args.s.now (get_or c.loop-i.heap.stack c.loop-i.i 0)) c.in_ok-m.m (going-ref c.args.s.now g l) q.0 q.1 q.2 q.3 c.in_ok-m.ensures.half)

pub returns : goal.returns
returns c = λ t refs h w. going-all c.args.s.now (c.loop-i.invariant t refs h w) (omega (arith, c.loop-i-test.false, w.top))
