-- `place_variables` meets its contract: at each turn the first k variables are nodes.
use Rattle.std.proofs.Common.{[]}
use Rattle.reading.specs.Trees.{Declarations}
use Rattle.heap_laws.specs.Heap.{Held, Stacked}
use Rattle.script_entries.specs.Entries.{Declares}
use Rattle.place_script.specs.Variables.{Declared}
use Rattle.place_script.proofs.place_variables.Given as goal

abbrev pub invariant-loop-k : goal.invariant-loop-k
invariant-loop-k l = (D : Declarations) → Declares l.script D → Held l.initial.heap [] → Stacked l.script.text.now l.initial.heap [] → Declared l.script.text.now l.heap D.variables l.k
