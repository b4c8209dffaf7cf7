-- `echo_tables::Lookups::variable_ok` meets its contract. Assumes nothing.
use Rattle.std.proofs.Common.{◌∙◌}
use Rattle.lent.specs.Lent.{dag_at}
use Rattle.lent.specs.Records.{node_of}
use Rattle.echo_spec.specs.Input.{dag_of}
use Rattle.echo_tables.specs.Asked.{variable-absent, variable-known}
use Rattle.echo_tables.proofs.Lookups.variable_ok.Goals as goal

pub returns-in-None : goal.returns-in-None
unfolding dag_of
returns-in-None c =
    variable-absent (dag_at c.args.self.now.problem.now) c.args.i (node_of c.args.n) (c.in-None.ensures ∙ c.args.self.now.filled.entries.at c.args.i c.requires)

pub returns-in-Some : goal.returns-in-Some
unfolding dag_of
returns-in-Some c =
    variable-known (dag_at c.args.self.now.problem.now) c.args.i (node_of c.args.n) (c.in-Some.ensures ∙ c.args.self.now.filled.entries.at c.args.i c.requires) c.get.ensures
