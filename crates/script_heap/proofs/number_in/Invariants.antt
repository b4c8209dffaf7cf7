-- `number_in` meets its contract: at each turn the bits so far are stored, and v is left of the number.
use Rattle.std.proofs.Common.{◌≡◌, ◌++◌, ◌-◌, take}
use Rattle.readback.specs.Rebuild.{low_bits}
use Rattle.script_heap.proofs.number_in.Given as goal

abbrev pub invariant-loop-bit : goal.invariant-loop-bit
invariant-loop-bit l = take l.bit-index l.bit-items ++ low_bits (l.w - l.bit-index) l.v ≡ low_bits l.w l.value
