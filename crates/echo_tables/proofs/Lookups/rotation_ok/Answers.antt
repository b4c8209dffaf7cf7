-- `echo_tables::Lookups::rotation_ok` meets its contract. Assumes nothing.
use Rattle.std.proofs.Common.{◌∙◌}
use Rattle.lent.specs.Lent.{dag_at}
use Rattle.lent.specs.Records.{node_of}
use Rattle.echo_spec.specs.Input.{dag_of}
use Rattle.echo_tables.specs.Asked.{le-cmp, rotation-in, rotation-out}
use Rattle.echo_tables.proofs.Lookups.rotation_ok.Goals as goal

pub returns-then-contains : goal.returns-then-contains
unfolding dag_of
returns-then-contains c =
    let range = rw (c.new.ensures.start, c.new.ensures.end, c.new.ensures.exhausted, le-cmp, le-cmp) at c.contains.ensures.value in
    rotation-in (dag_at c.args.self.now.problem.now) _ c.args.i (node_of c.args.n) c.get-w.ensures range c.if-contains.true c.node_of.ensures c.is_const.ensures

pub returns-else-contains : goal.returns-else-contains
unfolding dag_of
returns-else-contains c =
    let range = rw (c.new.ensures.start, c.new.ensures.end, c.new.ensures.exhausted, le-cmp, le-cmp) at c.contains.ensures.value in
    c.if-contains.false ∙ rotation-out (dag_at c.args.self.now.problem.now) _ c.args.i (node_of c.args.n) c.get-w.ensures range c.if-contains.false
