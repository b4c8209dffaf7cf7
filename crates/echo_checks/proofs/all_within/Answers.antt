-- `echo_checks::all_within` meets its contract: what `all` answers. Assumes nothing.
use Rattle.std.proofs.Common.{rules, leb, length}
use Rattle.chains.specs.Tests.{every-told}
use Rattle.echo_checks.proofs.all_within.Goals as goal

pub returns : goal.returns
returns g c = every-told (λ s. leb (length s.now) c.args.limit) c.args.slices.now c.all.result (search rules) (search rules)
