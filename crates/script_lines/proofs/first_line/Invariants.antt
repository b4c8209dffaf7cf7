-- `first_line` meets its contract: up to the place that it has come to no check-sat line starts.
use mathlib.Core.Path.{◌≡◌}
use Rattle.script_lines.specs.Scanning.{ahead}
use Rattle.script_lines.proofs.first_line.Given as goal

abbrev pub invariant-loop-k : goal.invariant-loop-k
invariant-loop-k l = ahead l.file l.a ≡ ahead l.file l.k
