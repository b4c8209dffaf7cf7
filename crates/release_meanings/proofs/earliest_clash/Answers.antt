-- `earliest_clash` meets its contract: at each turn the scripts before the place are entered, and agree.
use native.Mathlib.Omega.{arith}
use Rattle.release_meanings.specs.Cutting.{stepped, none_left}
use Rattle.release_meanings.specs.Clashes.{met_fresh, met-end, feed-in, to-enter, met-clash, met-more}
use Rattle.release_meanings.proofs.earliest_clash.Goals as goal

pub loop-n-init : goal.loop-n-init
loop-n-init c = met_fresh c.args.file.now c.requires.0 c.requires.1 c.new-names.result c.new-names.ensures

pub slice_bounds-next_script-count : goal.slice_bounds-next_script-count
slice_bounds-next_script-count c = omega (arith, c.loop-n.invariant.inside)

pub slice_bounds-next_script-start : goal.slice_bounds-next_script-start
slice_bounds-next_script-start c = omega (arith, c.loop-n.invariant.inside)

pub slice_bounds-next_script-end : goal.slice_bounds-next_script-end
slice_bounds-next_script-end c = omega (arith, c.loop-n.invariant.inside)

pub returns : goal.returns
returns c = met-end c.args.file.now c.loop-n.names.places c.loop-n.names.links c.loop-n.names.heads c.loop-n.names.count c.loop-n.at c.loop-n.k c.loop-n.invariant (none_left c.args.file.now c.loop-n.at c.next_script.result c.next_script.ensures c.in_default.is)

pub line_feed-q-requires : goal.line_feed-q-requires
line_feed-q-requires c = c.loop-n.invariant.inside

pub overflow_add-q : goal.overflow_add-q
overflow_add-q c = omega (arith, feed-in c.args.file.now c.loop-n.names.places c.loop-n.names.links c.loop-n.names.heads c.loop-n.names.count c.loop-n.at c.loop-n.k c.loop-n.invariant _ (stepped c.args.file.now c.loop-n.at c.next_script.result c.loop-n.invariant.inside c.next_script.ensures c.in-Some.is) c.line_feed-q.result c.line_feed-q.ensures)

pub enter_script-requires : goal.enter_script-requires
enter_script-requires c = to-enter c.args.file.now c.loop-n.names.places c.loop-n.names.links c.loop-n.names.heads c.loop-n.names.count c.loop-n.at c.loop-n.k c.loop-n.invariant _ (stepped c.args.file.now c.loop-n.at c.next_script.result c.loop-n.invariant.inside c.next_script.ensures c.in-Some.is) c.line_feed-q.result c.line_feed-q.ensures

pub returns-in_default-enter_script : goal.returns-in_default-enter_script
returns-in_default-enter_script c = met-clash c.args.file.now c.loop-n.names.places c.loop-n.names.links c.loop-n.names.heads c.loop-n.names.count c.loop-n.at c.loop-n.k c.loop-n.invariant _ (stepped c.args.file.now c.loop-n.at c.next_script.result c.loop-n.invariant.inside c.next_script.ensures c.in-Some.is) c.line_feed-q.result c.line_feed-q.ensures (c.in_default-enter_script.ensures)

pub overflow_add-at : goal.overflow_add-at
overflow_add-at c = omega (arith, (stepped c.args.file.now c.loop-n.at c.next_script.result c.loop-n.invariant.inside c.next_script.ensures c.in-Some.is).inside)

pub overflow_add-k : goal.overflow_add-k
overflow_add-k c = omega (arith, c.loop-n.invariant.few)

pub loop-n-smaller : goal.loop-n-smaller
loop-n-smaller c = omega (arith, (stepped c.args.file.now c.loop-n.at c.next_script.result c.loop-n.invariant.inside c.next_script.ensures c.in-Some.is).inside, (stepped c.args.file.now c.loop-n.at c.next_script.result c.loop-n.invariant.inside c.next_script.ensures c.in-Some.is).long)

pub loop-n-preserved : goal.loop-n-preserved
loop-n-preserved c = met-more c.args.file.now c.loop-n.names.places c.loop-n.names.links c.loop-n.names.heads c.loop-n.names.count c.loop-n.at c.loop-n.k c.loop-n.invariant _ (stepped c.args.file.now c.loop-n.at c.next_script.result c.loop-n.invariant.inside c.next_script.ensures c.in-Some.is) c.line_feed-q.result c.line_feed-q.ensures c.in-Ok.ensures
