-- `hash_bits` meets its contract: at each turn the hash so far goes on over the bits that are left.
use Rattle.std.proofs.Common.{◌≡◌, drop}
use Rattle.heap_laws.specs.Heap.{hash_from}
use Rattle.script_heap.proofs.hash_bits.Given as goal

abbrev pub invariant-loop-b : goal.invariant-loop-b
invariant-loop-b l = hash_from l.h (drop l.b-index l.bits) ≡ hash_from 0 l.bits
