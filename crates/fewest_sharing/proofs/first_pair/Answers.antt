-- `fewest_sharing::first_pair` meets its contract. Assumes nothing.
use Rattle.std.proofs.Common.{arith, below_more}
use Rattle.fewest_sharing.specs.Found.{Single}
use Rattle.fewest_sharing.proofs.first_pair.Goals as goal

pub loop-j-init : goal.loop-j-init
loop-j-init c = λ a l. absurd (omega arith)

pub returns-in-Some : goal.returns-in-Some
returns-in-Some c = record { at = c.in-Some.ensures; before = c.loop-j.invariant }

pub loop-j-preserved : goal.loop-j-preserved
loop-j-preserved c = below_more (Single c.args.shared.now c.args.roots.now) _ c.loop-j.invariant c.in_default.ensures

pub returns : goal.returns
returns c = λ a l. c.loop-j.invariant a (omega arith)
