-- `leaf` meets its contract. Assumes nothing.
use Rattle.script_place.specs.Going.{done_at}
use Rattle.script_place.proofs.leaf.Goals as goal

pub begin-requires : goal.begin-requires
begin-requires c = (c.args.script.now.text.now, c.requires.0, c.in_ok-x.ensures c.requires.0 c.requires.1)

pub returns-in-Done : goal.returns-in-Done
returns-in-Done c = λ heap levels. done_at c.in_ok-x.x c.in_ok-x.ensures c.in-Done.p c.in-Done.ensures
