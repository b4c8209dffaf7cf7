-- `mark_one` meets its contract.
use Rattle.echo_reach.specs.Marks.{adds_one, adds-past}
use Rattle.echo_reach.proofs.mark_one.Goals as goal

pub returns-then-k-marks : goal.returns-then-k-marks
returns-then-k-marks c = adds_one _ _ c.if-k-marks.true

pub returns-else-k-marks : goal.returns-else-k-marks
returns-else-k-marks c = adds-past _ _ c.if-k-marks.false
