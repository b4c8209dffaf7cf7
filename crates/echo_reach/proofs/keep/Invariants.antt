-- `keep` meets its contract: the marks of the first nodes are those of shared nodes.
use Rattle.echo_reach.specs.Marks.{BothTo}
use Rattle.echo_reach.proofs.keep.Given as goal

abbrev pub invariant-loop-i : goal.invariant-loop-i
invariant-loop-i l = BothTo l.shared l.initial.marks l.i l.marks

abbrev pub invariant-loop-j : goal.invariant-loop-j
invariant-loop-j l = BothTo l.shared l.initial.marks l.j l.marks
