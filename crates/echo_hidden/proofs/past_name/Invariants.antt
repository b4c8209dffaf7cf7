-- `echo_hidden::past_name` meets its contract: what is left to cover stays the same from byte to byte. Assumes nothing.
use Rattle.echo_hidden.specs.Covered.{inName, Came}
use Rattle.echo_hidden.proofs.past_name.Given as goal

abbrev pub invariant-loop-k : goal.invariant-loop-k
invariant-loop-k l = Came inName l.i l.out inName l.k l.out
