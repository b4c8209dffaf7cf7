-- `echo_checks::widths_ok` meets its contract: what `all` answers. Assumes nothing.
use Rattle.std.proofs.Common.{rules, ltb}
use Rattle.chains.specs.Tests.{every-told}
use Rattle.echo_checks.proofs.widths_ok.Goals as goal

pub returns : goal.returns
returns c = every-told (ltb 0) c.args.widths.now c.all.result (search rules) (search rules)
