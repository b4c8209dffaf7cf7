-- `echo_lengths::roots_length` meets its contract. The loop keeps: the table has the lengths of the first i nodes. Assumes nothing.
use Rattle.echo_lengths.specs.LengthTable.{Longs}
use Rattle.echo_lengths.proofs.roots_length.Given as goal

abbrev pub invariant-loop-i : goal.invariant-loop-i
invariant-loop-i l = Longs l.walk l.lens l.i
