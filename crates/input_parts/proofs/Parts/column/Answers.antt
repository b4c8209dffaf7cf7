-- `column` meets its contract: one number a turn. Assumes nothing.
use Rattle.input_parts.proofs.Laws.{fill-next}
use Rattle.input_parts.proofs.Parts.column.Goals as goal

pub loop-i-preserved : goal.loop-i-preserved
loop-i-preserved g c = fill-next c.loop-i.invariant c.loop-i-test.true c.word64.ensures
