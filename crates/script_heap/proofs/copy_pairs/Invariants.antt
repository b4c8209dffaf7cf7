-- `copy_pairs` meets its contract: at each turn the last i pairs are side entries.
use Rattle.std.proofs.Common.{◌+◌, ◌*◌, ◌-◌}
use Rattle.heap_laws.specs.Pairs.{Pairing}
use Rattle.script_heap.proofs.copy_pairs.Given as goal

abbrev pub invariant-loop-i : goal.invariant-loop-i
invariant-loop-i l = Pairing l.initial.side l.side l.stack l.from l.base l.n (l.n - l.i) (l.from + 2 * l.i)
