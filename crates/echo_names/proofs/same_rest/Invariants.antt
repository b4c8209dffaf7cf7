-- `same_rest` meets its contract: what was compared so far agrees at each turn.
use mathlib.Core.Bool.{true}
use Rattle.echo_names.specs.Compared.{Compared}
use Rattle.echo_names.proofs.same_rest.Given as goal

abbrev pub invariant-loop-k : goal.invariant-loop-k
invariant-loop-k l = Compared l.a l.b l.i l.k true
