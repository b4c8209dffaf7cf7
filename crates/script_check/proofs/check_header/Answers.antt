-- `check_header` meets its contract: no header, or its declarations and the place after it.
use Rattle.script_check.specs.Turns.{topped-to}
use Rattle.script_check.proofs.check_header.Goals as goal

pub returns : goal.returns
returns c = topped-to _ _ c.header_at_start.result c.header_at_start.ensures.header c.header_at_start.ensures.noted
