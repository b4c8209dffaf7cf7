-- `same_block` meets its contract: what was compared so far is known at each turn.
use Rattle.echo_names.specs.Compared.{Compared}
use Rattle.echo_names.proofs.same_block.Given as goal

abbrev pub invariant-loop-k : goal.invariant-loop-k
invariant-loop-k l = Compared l.a l.b l.i l.k l.ok
