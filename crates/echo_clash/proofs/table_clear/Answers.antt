-- `table_clear` meets its contract: what `all` answers of the entries. Assumes nothing.
use Rattle.std.proofs.Common.{rules}
use Rattle.std.proofs.iter.runs.Made.{chains}
use Rattle.echo_clash.specs.Clash.{clear-told}
use Rattle.echo_clash.proofs.table_clear.Goals as goal

pub returns : goal.returns
returns c =
    clear-told c.args.shared.now c.args.table.now.arena.now c.args.table.now.starts.now c.args.table.now.lens.now c.all.result
    (search (rules, chains)) (search (rules, chains))
