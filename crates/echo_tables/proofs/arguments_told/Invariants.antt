-- `echo_tables::arguments_told` meets its contract: the arguments from the place on decide the answer. Assumes nothing.
use Rattle.std.proofs.Common.{◌≡◌, drop, map}
use Rattle.echo_spec.specs.Walk.{vector, walk_all}
use Rattle.echo_tables.specs.Marks.{use_of}
use Rattle.echo_tables.proofs.arguments_told.Given as goal

abbrev pub invariant-loop-x : goal.invariant-loop-x
invariant-loop-x l = walk_all (use_of l.marks) (map vector (drop l.x-index l.args)) ≡ walk_all (use_of l.marks) (map vector l.args)
