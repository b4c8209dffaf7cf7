-- `next_script` meets its contract: the blocks that it has passed start no check-sat line.
use Prim.Native.Nat.{◌*◌}
use mathlib.Core.Path.{◌≡◌}
use Rattle.script_lines.specs.Lines.{following_script}
use Rattle.script_lines.specs.Scanning.{ahead}
use Rattle.script_lines.proofs.next_script.Given as goal

abbrev pub invariant-loop-k : goal.invariant-loop-k
invariant-loop-k l = following_script l.file ≡ ahead l.file (64 * l.k)
