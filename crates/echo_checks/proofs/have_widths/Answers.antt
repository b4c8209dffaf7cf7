-- `echo_checks::have_widths` meets its contract: what `all` answers. Assumes nothing.
use Rattle.std.proofs.Common.{rules}
use Rattle.echo_checks.specs.Functions.{has_width}
use Rattle.chains.specs.Tests.{every-told}
use Rattle.echo_checks.proofs.have_widths.Goals as goal

pub returns : goal.returns
returns c = every-told (has_width c.args.ws.now) c.args.xs.now c.all.result (search rules) (search rules)
