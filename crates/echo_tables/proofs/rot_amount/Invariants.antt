-- `echo_tables::rot_amount` meets its contract. The loop keeps: k is the value of the bits behind those that are left, modulo w. Assumes nothing.
use Rattle.std.proofs.Common.{◌≡◌, ◌<◌, ◌-◌, ◌%◌, drop, length}
use Rattle.echo_spec.specs.Trees.{bits_value}
use Rattle.echo_tables.proofs.rot_amount.Given as goal

abbrev pub invariant-loop-b : goal.invariant-loop-b
invariant-loop-b l = (l.k < l.w) × (l.k ≡ bits_value (drop (length l.bits - length l.yielded) l.bits) % l.w)
