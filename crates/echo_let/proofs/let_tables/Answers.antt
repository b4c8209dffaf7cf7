-- `let_tables` meets its contract: the checks from the names on, in order. Assumes nothing.
use Rattle.std.proofs.Common.{arith, sym}
use Rattle.echo_spec.specs.Input.{dag_of}
use Rattle.echo_spec.specs.ColumnLaws.{columns-aligned}
use Rattle.lent.specs.Lent.{problem_at}
use Rattle.lent.specs.Records.{nodes-length}
use Rattle.echo_checks.specs.Limits.{bounds}
use Rattle.let_script.specs.Printing.{let_tables_refusal, none-shared, some-shared, clear-plain, as_plain}
use Rattle.echo_let.proofs.let_tables.Goals as goal

pub names_ok-requires : goal.names_ok-requires
names_ok-requires c = columns-aligned _ c.args.formed.now.formed.columns

pub shared_nodes-shared-requires : goal.shared_nodes-shared-requires
shared_nodes-shared-requires c = (bounds (problem_at c.args.formed.now.problem.now) c.args.formed.now.formed.within).nodes

pub returns-in_default : goal.returns-in_default
unfolding let_tables_refusal
returns-in_default c =
    let p = problem_at c.args.formed.now.problem.now in
    let u = none-shared p c.in_default.is c.shared_nodes-shared.ensures in
    rw (sym c.names_ok.ensures, c.if-not-names_ok.false, clear-plain p u) (as_plain p u _ c.plain_filled.ensures)

pub names_clear-requires : goal.names_clear-requires
unfolding dag_of
names_clear-requires c =
    let p = problem_at c.args.formed.now.problem.now in
    record {
      flags = some-shared p c.in-Some.is c.shared_nodes-shared.ensures;
      room = omega arith;
      few = omega (arith, nodes-length p.nodes, (bounds p c.args.formed.now.formed.within).nodes);
      aligned = columns-aligned _ c.args.formed.now.formed.columns;
    }

pub invariant_of-operators : goal.invariant_of-operators
invariant_of-operators c = record { flags = some-shared (problem_at c.args.formed.now.problem.now) c.in-Some.is c.shared_nodes-shared.ensures }
