-- `function_ok` meets its contract: the tests in the order of the definition. Assumes nothing.
use mathlib.Core.Path.{◌∙◌}
use Rattle.echo_spec.specs.Input.{dag_of}
use Rattle.lent.specs.Lent.{dag_at}
use Rattle.echo_checks.specs.Functions.{func-empty, func-absent, func-by}
use Rattle.echo_checks.proofs.Signatures.function_ok.Goals as goal

pub returns-then-get-eq0 : goal.returns-then-get-eq0
unfolding dag_of
returns-then-get-eq0 c = func-empty (dag_at c.args.self.now.problem.now) _ _ c.get.ensures c.if-get-eq0.true

pub returns-in-None : goal.returns-in-None
unfolding dag_of
returns-in-None c =
    func-absent (dag_at c.args.self.now.problem.now) _ _ c.get.ensures c.if-get-eq0.false
    (c.in-None.ensures ∙ c.args.self.now.filled.calls.at _ c.requires)

pub returns-in-Some : goal.returns-in-Some
unfolding dag_of
returns-in-Some c =
    func-by (dag_at c.args.self.now.problem.now) _ _ c.get.ensures c.if-get-eq0.false
    (c.in-Some.ensures ∙ c.args.self.now.filled.calls.at _ c.requires) c.node_of.ensures c.arguments_ok.ensures
