-- `count_uses` meets its contract.
use Rattle.echo_sharing.specs.Counts.{counted-append}
use Rattle.echo_sharing.proofs.count_uses.Goals as goal

pub returns : goal.returns
returns c = rw (counted-append, ← c.count_operands.ensures) c.bump_each.ensures
