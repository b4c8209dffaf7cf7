-- `call_on_zeros` meets its contract: at each turn the arguments before the place reached have their nodes and wait.
use Rattle.std.proofs.Common.{ℕ, List, [], ◌-◌, length}
use Rattle.readback.specs.Rebuild.{Item}
use Rattle.heap_laws.specs.Heap.{Held, Stacked}
use Rattle.script_entries.specs.Entries.{ArgumentsAt}
use Rattle.place_script.specs.Zeros.{Zeroing}
use Rattle.place_script.proofs.call_on_zeros.Given as goal

abbrev pub invariant-loop-x : goal.invariant-loop-x
invariant-loop-x l = (ws : List ℕ) (first : List Item) → ArgumentsAt l.s l.p ws → Held l.initial.heap first → Stacked l.s l.initial.heap [] → Zeroing l.s l.heap ws first l.a

abbrev pub decreases-loop-x : goal.decreases-loop-x
decreases-loop-x l = length l.s - l.a
