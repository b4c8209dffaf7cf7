-- `stores` meets its contract.
use Rattle.std.proofs.Common.{◌∙◌}
use Rattle.echo_sharing.specs.Operands.{stores-all}
use Rattle.echo_sharing.proofs.stores.Goals as goal

pub returns : goal.returns
returns c = c.stretch.ensures ∙ stores-all c.args.n c.args.s c.args.side.now c.min.ensures
