use Rattle.std.proofs.Common.{◌∙◌}
use Rattle.trace_values.specs.RowTests.{rows-by}
use Rattle.trace_values.proofs.row_count.Goals as goal

pub returns : goal.returns
returns c = c.unwrap_or.ensures ∙ rows-by c.args.v c.args.len c.checked_div.result c.checked_div.ensures
