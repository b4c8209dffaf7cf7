-- `keep` meets its contract: the marks of the first nodes are those of shared nodes.
use Rattle.std.proofs.Common.{arith, refl}
use Rattle.echo_reach.specs.Marks.{both-none, both-more}
use Rattle.echo_reach.proofs.keep.Goals as goal

pub loop-i-init : goal.loop-i-init
loop-i-init c = both-none _ _

pub loop-i-preserved : goal.loop-i-preserved
loop-i-preserved c = both-more c.loop-i.invariant (omega (arith, c.loop-i.invariant.size)) refl

pub bounds-marks-i : goal.bounds-marks-i
bounds-marks-i c = omega (arith, c.loop-i.invariant.size)
