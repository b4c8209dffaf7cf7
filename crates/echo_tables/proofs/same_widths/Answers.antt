-- `echo_tables::same_widths` meets its contract: what `all` answers of the pairs. Assumes nothing.
use Rattle.std.proofs.Common.{rules}
use Rattle.std.proofs.iter.runs.Made.{chains}
use Rattle.echo_tables.specs.Steps.{same-told}
use Rattle.echo_tables.proofs.same_widths.Goals as goal

pub returns : goal.returns
returns c = same-told c.args.ws.now c.args.a.now c.args.b.now c.requires c.all.result (search (rules, chains)) (search (rules, chains))
