-- `bytes_ok` meets its contract.
use Rattle.std.proofs.Common.{rules}
use Rattle.chains.specs.Tests.{every-told}
use Rattle.echo_spec.specs.Names.{byte_ok}
use Rattle.echo_names.proofs.bytes_ok.Goals as goal

pub returns : goal.returns
returns c = every-told byte_ok c.args.name.now c.all.result (search rules) (search rules)
