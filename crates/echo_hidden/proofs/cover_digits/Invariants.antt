-- `echo_hidden::cover_digits` meets its contract: a digit is covered, and what is left to cover stays the same. Assumes nothing.
use Rattle.echo_hidden.specs.Covered.{inConstant, Came}
use Rattle.echo_hidden.proofs.cover_digits.Given as goal

abbrev pub invariant-loop-k : goal.invariant-loop-k
invariant-loop-k l = Came inConstant l.i l.initial.out inConstant l.k l.out
