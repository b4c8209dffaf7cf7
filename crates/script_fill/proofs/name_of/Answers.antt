-- `name_of` meets its contract: the bytes up to the bar.
use Rattle.script_fill.specs.Turns.{name-between}
use Rattle.script_fill.proofs.name_of.Goals as goal

pub returns : goal.returns
returns c = name-between c.args.script.now.table.now c.args.k c.place-p.ensures c.bar_at.ensures
