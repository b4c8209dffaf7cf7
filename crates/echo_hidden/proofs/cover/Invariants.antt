-- `echo_hidden::cover` meets its contract: a name or a constant at a time, or one byte outside. Assumes nothing.
use Rattle.std.specs.Prelude.{◌-◌, length}
use Rattle.echo_hidden.specs.Covered.{outside, Came}
use Rattle.echo_hidden.proofs.cover.Given as goal

abbrev pub invariant-loop-i : goal.invariant-loop-i
invariant-loop-i l = Came outside 0 l.initial.out outside l.i l.out

abbrev pub decreases-loop-i : goal.decreases-loop-i
decreases-loop-i l = length l.initial.out - l.i
