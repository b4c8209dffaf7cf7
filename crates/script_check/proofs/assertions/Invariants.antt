-- `assertions` meets its contract: at each turn n assertions are read, each a Bool, and the place is after them.
use Rattle.std.proofs.Common.{◌-◌, length}
use Rattle.reading.specs.Trees.{Declarations}
use Rattle.script_entries.specs.Entries.{Declares}
use Rattle.script_check.specs.Steps.{Going}
use Rattle.script_check.proofs.assertions.Given as goal

abbrev pub invariant-loop-a : goal.invariant-loop-a
invariant-loop-a l = (D : Declarations) → Declares l.script D → Going l.script.text.now D l.from l.p l.n

abbrev pub decreases-loop-a : goal.decreases-loop-a
decreases-loop-a l = length l.script.text.now - l.p
