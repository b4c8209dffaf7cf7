-- `after_bar` meets its contract: a name up to its bar, or none.
use Rattle.script_names.specs.Laws.{after-place}
use Rattle.script_names.proofs.after_bar.Goals as goal

pub returns : goal.returns
returns c = rw c.unwrap_or.ensures (after-place c.args.s.now c.args.at c.name_end.result c.name_end.ensures)
