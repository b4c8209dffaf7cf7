-- `find_bits` meets its contract: at each turn the constant, if it has a node, stands no later than the node that is next in the chain.
use mathlib.Core.List.{List}
use Rattle.readback.specs.Rebuild.{Item}
use Rattle.heap_laws.specs.Heap.{past, Held}
use Rattle.heap_laws.specs.Chains.{Sought}
use Rattle.script_heap.proofs.find_bits.Given as goal

abbrev pub invariant-loop-link : goal.invariant-loop-link
invariant-loop-link l = (s : List Item) → Held l.heap s → Sought s l.bits (past l.link)

abbrev pub decreases-loop-link : goal.decreases-loop-link
decreases-loop-link l = past l.link
