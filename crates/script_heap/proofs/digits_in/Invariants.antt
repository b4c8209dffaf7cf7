-- `digits_in` meets its contract: at each turn the last i digits are stored as bits.
use Rattle.std.proofs.Common.{◌≡◌, ◌-◌}
use Rattle.smtlib.specs.Readings.{bits_of}
use Rattle.script_tokens.specs.Reached.{between}
use Rattle.heap_laws.specs.Filled.{filled}
use Rattle.script_heap.proofs.digits_in.Given as goal

abbrev pub invariant-loop-i : goal.invariant-loop-i
invariant-loop-i l = l.bits ≡ filled l.initial.bits l.at (bits_of (between l.s (l.e - l.i) l.e))
