-- `same_bytes` meets its contract: the blocks so far agree at each turn.
use Prim.Native.Nat.{◌*◌}
use Rattle.echo_names.specs.Compared.{Agree}
use Rattle.echo_names.proofs.same_bytes.Given as goal

abbrev pub invariant-loop-k : goal.invariant-loop-k
invariant-loop-k l = Agree l.a l.b 0 (16 * l.k)
