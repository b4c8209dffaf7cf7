-- `echo_tables::roots_told` meets its contract: the roots from the place on decide the answer. Assumes nothing.
use Rattle.std.proofs.Common.{◌≡◌, drop, map}
use Rattle.echo_spec.specs.Walk.{formula, walk_all, walk, walk_roots}
use Rattle.lent.specs.Lent.{dag_at}
use Rattle.echo_tables.proofs.roots_told.Given as goal

abbrev pub invariant-loop-x : goal.invariant-loop-x
invariant-loop-x l = walk_all (walk (dag_at l.problem) l.ws) (map formula (drop l.x-index l.roots)) ≡ walk_roots (dag_at l.problem) l.ws l.roots
