-- `first_line` meets its contract: up to the place that it has come to no check-sat line starts.
use mathlib.Core.Path.{sym, ◌∙◌}
use native.Mathlib.Omega.{arith}
use Rattle.script_lines.proofs.Scanning.{ahead-here, ahead-on}
use Rattle.script_lines.proofs.first_line.Goals as goal

pub returns-then-starts : goal.returns-then-starts
returns-then-starts c =
    c.loop-k.invariant ∙ ahead-here c.args.file.now c.loop-k.k (omega arith) (sym c.starts.ensures ∙ c.if-starts.true)

pub loop-k-preserved : goal.loop-k-preserved
loop-k-preserved c =
    c.loop-k.invariant ∙ ahead-on c.args.file.now c.loop-k.k (omega arith) (sym c.starts.ensures ∙ c.if-starts.false)
