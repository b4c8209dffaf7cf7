-- What is asked where the names are compared with those of the shared nodes.
use Rattle.std.specs.Prelude.{◌≤◌, List, Bool, length}
use Rattle.echo_spec.specs.ColumnLaws.{Aligned}
use Rattle.lets.specs.Lets.{uses_in, shared}
use Rattle.lent.specs.declared.Problem.{Problem}
use Rattle.lent.specs.Lent.{problem_at, dag_at}
use Rattle.echo_sharing.specs.Flags.{Flags}

-- the table, which may end behind the last node, has the shared nodes, of which there are no more than the limit
pub record Clearable (p : Problem) (table : List Bool) : Type 0 where
  pub flags : Flags (shared (dag_at p) (uses_in (dag_at p) (problem_at p).roots)) table
  pub room : length table ≤ 2048
  pub few : length (dag_at p).nodes ≤ 2048
  pub aligned : Aligned (dag_at p)
