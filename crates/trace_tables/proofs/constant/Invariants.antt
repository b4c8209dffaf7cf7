-- `trace_tables::constant` meets its contract. The loop keeps: r has the bits behind those that are left. Assumes nothing.
use Rattle.std.proofs.Common.{◌-◌, length}
use Rattle.trace_tables.specs.Digits.{Upper}
use Rattle.trace_tables.proofs.constant.Given as goal

abbrev pub invariant-loop-b : goal.invariant-loop-b
invariant-loop-b l = Upper l.bits (length l.bits - length l.yielded) l.r
