-- `echo_checks::all_of` meets its contract: what `all` answers. Assumes nothing.
use Rattle.std.proofs.Common.{rules, eqb, length}
use Rattle.chains.specs.Tests.{every-told}
use Rattle.echo_checks.proofs.all_of.Goals as goal

pub returns : goal.returns
returns c = every-told (λ s. eqb (length s.now) c.args.n) c.args.columns.now c.all.result (search rules) (search rules)
