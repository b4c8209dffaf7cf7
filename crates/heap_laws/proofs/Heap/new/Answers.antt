-- `Heap::new` meets its contract: its arrays are 0 throughout.
use Rattle.heap_laws.specs.Start.{held_none, stacked-none}
use Rattle.heap_laws.specs.Blank.{fresh-heap}
use Rattle.heap_laws.proofs.Heap.new.Goals as goal

pub returns-clause-held : goal.returns-clause-held
returns-clause-held c = held_none fresh-heap

pub returns-clause-stacked : goal.returns-clause-stacked
returns-clause-stacked c = λ s. stacked-none s fresh-heap
