-- `echo_tables::Lookups::call_ok` meets its contract: the tests in the order of the definition. Assumes nothing.
use Rattle.std.proofs.Common.{◌∙◌}
use Rattle.lent.specs.Lent.{dag_at}
use Rattle.lent.specs.Records.{node_of}
use Rattle.echo_spec.specs.Input.{dag_of}
use Rattle.echo_tables.specs.Asked.{call-width, call-absent, call_by}
use Rattle.echo_tables.proofs.Lookups.call_ok.Goals as goal

pub returns-then-get-n : goal.returns-then-get-n
unfolding dag_of
returns-then-get-n c = call-width (dag_at c.args.self.now.problem.now) _ (node_of c.args.n) c.get.ensures c.if-get-n.true

pub returns-in-None : goal.returns-in-None
unfolding dag_of
returns-in-None c =
    call-absent (dag_at c.args.self.now.problem.now) _ (node_of c.args.n) c.get.ensures c.if-get-n.false (c.in-None.ensures ∙ c.args.self.now.filled.calls.at _ c.requires)

pub returns-in-Some : goal.returns-in-Some
unfolding dag_of
returns-in-Some c =
    call_by (dag_at c.args.self.now.problem.now) _ (node_of c.args.n) c.get.ensures c.if-get-n.false (c.in-Some.ensures ∙ c.args.self.now.filled.calls.at _ c.requires)
    c.node_of.ensures c.args_match.ensures
