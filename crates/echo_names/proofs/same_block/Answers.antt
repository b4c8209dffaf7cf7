-- `same_block` meets its contract: what was compared so far is known at each turn.
use Rattle.echo_names.specs.Compared.{compared-start}
use Rattle.echo_names.proofs.same_block.Goals as goal

pub loop-k-init : goal.loop-k-init
loop-k-init c = compared-start
