-- `starts` meets its contract: a line starts there, and it is a check-sat line.
use mathlib.Core.Path.{◌∙◌}
use Rattle.lists.specs.Bytes.{bytes}
use Rattle.script_lines.specs.Lines.{check_sat_line}
use Rattle.script_lines.specs.Scanning.{starts-begins-at, starts-by-line}
use Rattle.script_lines.proofs.starts.Goals as goal

pub returns-then-fresh : goal.returns-then-fresh
unfolding bytes
returns-then-fresh c =
    starts-by-line c.args.file.now c.args.k c.fresh.ensures c.if-fresh.true (c.starts_with.ensures.value ∙ starts-begins-at check_sat_line c.args.file.now c.args.k)
