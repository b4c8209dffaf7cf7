-- `measure_after` meets its contract: what the rest of a line of its stage tells.
use Rattle.script_entries.specs.Telling.{stage-measured}
use Rattle.script_entries.proofs.measure_after.Goals as goal

pub returns : goal.returns
returns c = λ m t D κ l q. stage-measured κ c.args.k c.args.e q c.stage_of.result c.stage_of.ensures l c.told.ensures
