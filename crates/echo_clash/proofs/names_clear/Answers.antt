-- `names_clear` meets its contract: the names are those of the tables, one after the other. Assumes nothing.
use Rattle.std.proofs.Common.{arith}
use Rattle.lets.specs.Lets.{uses_in}
use Rattle.lent.specs.Lent.{problem_at, dag_at}
use Rattle.echo_clash.specs.Clash.{clear-names}
use Rattle.echo_clash.proofs.names_clear.Goals as goal

pub returns-then-table_clear-2 : goal.returns-then-table_clear-2
returns-then-table_clear-2 c =
    let e = clear-names (dag_at c.args.problem.now) (uses_in (dag_at c.args.problem.now) (problem_at c.args.problem.now).roots) c.args.shared.now c.requires.flags c.requires.few c.of-names.ensures in
    grind arith

pub returns-else-table_clear-2 : goal.returns-else-table_clear-2
returns-else-table_clear-2 c =
    let e = clear-names (dag_at c.args.problem.now) (uses_in (dag_at c.args.problem.now) (problem_at c.args.problem.now).roots) c.args.shared.now c.requires.flags c.requires.few c.of-names.ensures in
    grind arith
