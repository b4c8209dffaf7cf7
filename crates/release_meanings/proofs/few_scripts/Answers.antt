-- `few_scripts` meets its contract: the scripts before the place and those after it are all.
use native.Mathlib.Omega.{arith}
use Rattle.release_meanings.specs.Cutting.{stepped, none_left, counted_start, counted-end, counted-over, counted-more}
use Rattle.release_meanings.proofs.few_scripts.Goals as goal

pub loop-n-init : goal.loop-n-init
loop-n-init c = counted_start c.args.file.now

pub slice_bounds-next_script-count : goal.slice_bounds-next_script-count
slice_bounds-next_script-count c = omega (arith, c.loop-n.invariant.inside)

pub slice_bounds-next_script-start : goal.slice_bounds-next_script-start
slice_bounds-next_script-start c = omega (arith, c.loop-n.invariant.inside)

pub slice_bounds-next_script-end : goal.slice_bounds-next_script-end
slice_bounds-next_script-end c = omega (arith, c.loop-n.invariant.inside)

pub returns : goal.returns
returns c = counted-end c.args.file.now c.loop-n.at c.loop-n.k c.loop-n.invariant (none_left c.args.file.now c.loop-n.at c.next_script.result c.next_script.ensures c.in_default.is)

pub returns-then-k-ge-MOST_SCRIPTS : goal.returns-then-k-ge-MOST_SCRIPTS
returns-then-k-ge-MOST_SCRIPTS c = counted-over c.args.file.now c.loop-n.at c.loop-n.k c.loop-n.invariant _ (stepped c.args.file.now c.loop-n.at c.next_script.result c.loop-n.invariant.inside c.next_script.ensures c.in-Some.is) c.if-k-ge-MOST_SCRIPTS.true

pub overflow_add-at : goal.overflow_add-at
overflow_add-at c = omega (arith, (stepped c.args.file.now c.loop-n.at c.next_script.result c.loop-n.invariant.inside c.next_script.ensures c.in-Some.is).inside)

pub overflow_add-k : goal.overflow_add-k
overflow_add-k c = omega (arith, c.if-k-ge-MOST_SCRIPTS.false)

pub loop-n-smaller : goal.loop-n-smaller
loop-n-smaller c = omega (arith, (stepped c.args.file.now c.loop-n.at c.next_script.result c.loop-n.invariant.inside c.next_script.ensures c.in-Some.is).inside, (stepped c.args.file.now c.loop-n.at c.next_script.result c.loop-n.invariant.inside c.next_script.ensures c.in-Some.is).long)

pub loop-n-preserved : goal.loop-n-preserved
loop-n-preserved c = counted-more c.args.file.now c.loop-n.at c.loop-n.k c.loop-n.invariant _ (stepped c.args.file.now c.loop-n.at c.next_script.result c.loop-n.invariant.inside c.next_script.ensures c.in-Some.is) c.if-k-ge-MOST_SCRIPTS.false
