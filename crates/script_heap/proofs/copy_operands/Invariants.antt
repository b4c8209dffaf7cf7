-- `copy_operands` meets its contract: at each turn the first i operands are side entries.
use Rattle.std.proofs.Common.{◌≡◌, take, drop}
use Rattle.heap_laws.specs.Heap.{halves}
use Rattle.heap_laws.specs.Filled.{filled}
use Rattle.script_heap.proofs.copy_operands.Given as goal

abbrev pub invariant-loop-i : goal.invariant-loop-i
invariant-loop-i l = l.side ≡ filled l.initial.side l.from (halves (take l.i (drop l.base l.stack)))
