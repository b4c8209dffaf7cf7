-- `sliver_kernel::column_allowed` meets its contract. Assumes nothing.
use Rattle.std.proofs.Common.{rules}
use Rattle.chains.specs.Tests.{every-told}
use Rattle.echo_spec.specs.Widths.{array_width_ok}
use Rattle.sliver_kernel.proofs.column_allowed.Goals as goal

pub returns : goal.returns
returns c = every-told array_width_ok c.args.column.now c.all.result (search rules) (search rules)
