-- `echo_tables::pairs_told` meets its contract: the first k pairs decide the answer. Assumes nothing.
use Rattle.std.proofs.Common.{◌≡◌, drop}
use Rattle.echo_spec.specs.Walk.{levels, walk_all}
use Rattle.echo_tables.specs.Marks.{use_of}
use Rattle.echo_tables.proofs.pairs_told.Given as goal

abbrev pub invariant-loop-k : goal.invariant-loop-k
invariant-loop-k l = walk_all (use_of l.marks) (levels l.k (drop l.s l.side)) ≡ walk_all (use_of l.marks) (levels l.n (drop l.s l.side))
