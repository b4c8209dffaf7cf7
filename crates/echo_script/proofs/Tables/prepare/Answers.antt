-- `Tables::prepare` meets its contract: the checks from the names on, in order. Assumes nothing.
use Rattle.echo_spec.specs.ColumnLaws.{columns-aligned}
use Rattle.lent.specs.Lent.{problem_at}
use Rattle.echo_checks.specs.Limits.{bounds}
use Rattle.echo_script.proofs.Tables.prepare.Goals as goal

pub names_ok-requires : goal.names_ok-requires
names_ok-requires c = columns-aligned _ c.args.formed.now.formed.columns

pub unshared-requires : goal.unshared-requires
unshared-requires c = (bounds (problem_at c.args.formed.now.problem.now) c.args.formed.now.formed.within).nodes
