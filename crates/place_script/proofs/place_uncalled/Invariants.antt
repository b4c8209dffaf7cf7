-- `place_uncalled` meets its contract: at each turn the first g functions are through.
use Rattle.std.proofs.Common.{List, []}
use Rattle.reading.specs.Trees.{Declarations}
use Rattle.readback.specs.Rebuild.{Item}
use Rattle.heap_laws.specs.Heap.{Held, Stacked}
use Rattle.script_entries.specs.Entries.{Declares}
use Rattle.place_script.specs.Uncalled.{Uncalling}
use Rattle.place_script.proofs.place_uncalled.Given as goal

abbrev pub invariant-loop-g : goal.invariant-loop-g
invariant-loop-g l = (D : Declarations) (first : List Item) → Declares l.script D → Held l.initial.heap first → Stacked l.script.text.now l.initial.heap [] → Uncalling l.script.text.now l.called l.heap D first l.g
