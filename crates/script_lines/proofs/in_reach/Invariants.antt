-- `in_reach` meets its contract: at each turn the places passed do not have the byte, unless it was seen.
use mathlib.Core.Path.{◌≡◌}
use mathlib.Core.Bool.{false}
use Rattle.script_lines.specs.Scanning.{Without}
use Rattle.script_lines.proofs.in_reach.Given as goal

abbrev pub invariant-loop-x : goal.invariant-loop-x
invariant-loop-x l = l.seen ≡ false → Without l.file l.i l.x-index l.b
