-- `same_rest` meets its contract: what was compared so far agrees at each turn.
use Rattle.echo_names.specs.Compared.{compared-start, compared_same, compared-apart, compared-past}
use Rattle.echo_names.proofs.same_rest.Goals as goal

pub loop-k-init : goal.loop-k-init
loop-k-init c = compared-start

pub returns-then-a-k : goal.returns-then-a-k
returns-then-a-k c = compared-past (compared-apart c.loop-k.invariant c.if-a-k.true)

pub loop-k-preserved : goal.loop-k-preserved
loop-k-preserved c = compared_same c.loop-k.invariant c.if-a-k.false
