-- `mark_each` meets its contract: the first nodes of the list are marked.
use Rattle.std.proofs.Common.{arith}
use Rattle.echo_reach.specs.Marks.{adds_none, adds-next, adds-all}
use Rattle.echo_reach.proofs.mark_each.Goals as goal

pub loop-x-init : goal.loop-x-init
loop-x-init c = adds_none _

pub loop-x-preserved : goal.loop-x-preserved
loop-x-preserved c = adds-next c.args.xs.now c.loop-x.x-index (omega arith) c.loop-x.invariant c.mark_one.ensures

pub returns : goal.returns
returns c = adds-all c.args.xs.now c.loop-x.x-index (omega arith) c.loop-x.invariant
