-- `settle_all` meets its contract: at each turn the operands up to place i are nodes.
use Rattle.std.proofs.Common.{List}
use Rattle.readback.specs.Rebuild.{Item, Ref}
use Rattle.heap_laws.specs.Heap.{Held, Stacked}
use Rattle.heap_laws.specs.Going.{Going}
use Rattle.script_heap.proofs.settle_all.Given as goal

abbrev pub invariant-loop-i : goal.invariant-loop-i
invariant-loop-i l = (t : List Item) (refs : List Ref) → Held l.initial.heap t → Stacked l.s l.initial.heap refs → Going l.s l.heap t refs l.base l.i
