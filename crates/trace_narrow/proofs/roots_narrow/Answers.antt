-- `trace_narrow::roots_narrow` meets its contract. The loop keeps: the first i nodes are marked, and no other. Assumes nothing.
use Rattle.std.proofs.Common.{arith}
use Rattle.trace_narrow.specs.Marks.{marks-start, marks-next, marks-whole, passed-by}
use Rattle.trace_narrow.proofs.roots_narrow.Goals as goal

pub loop-i-init : goal.loop-i-init
loop-i-init c = marks-start c.args.nodes.now c.args.ws.now

pub loop-i-preserved : goal.loop-i-preserved
loop-i-preserved c = marks-next c.args.nodes.now c.args.ws.now c.loop-i.i c.test.result c.loop-i.marks (omega arith) c.test.ensures c.loop-i.invariant

pub returns : goal.returns
returns c = passed-by (marks-whole c.args.nodes.now c.args.ws.now c.loop-i.i c.loop-i.marks (omega arith) c.loop-i.invariant) c.all_marked.ensures
