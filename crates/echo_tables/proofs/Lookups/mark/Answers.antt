-- `echo_tables::Lookups::mark` meets its contract. The loop keeps: the first i nodes have their marks. Assumes nothing.
use Rattle.std.proofs.Common.{◌∙◌, sym, arith, length-set}
use Rattle.echo_spec.specs.Input.{dag_of, no_node}
use Rattle.lent.specs.Lent.{problem_at, dag_at}
use Rattle.lent.specs.Records.{nodes-length, nodes-at}
use Rattle.echo_tables.specs.Filling.{marked_none, marked_more}
use Rattle.echo_tables.proofs.Lookups.mark.Goals as goal

pub loop-i-init : goal.loop-i-init
loop-i-init c = (c.told-marks, marked_none (dag_at c.args.self.now.problem.now) _ 2048 c.requires)

pub node_at-requires : goal.node_at-requires
node_at-requires c = omega (arith, nodes-length (problem_at c.args.self.now.problem.now).nodes)

pub mark_node-m-requires : goal.mark_node-m-requires
unfolding dag_of
mark_node-m-requires c =
    record {
      filled = c.loop-i.invariant.1;
      here = omega (arith, c.node_count-i-end.ensures);
      node = c.node_at.ensures ∙ sym (nodes-at (problem_at c.args.self.now.problem.now).nodes no_node _ (omega (arith, nodes-length (problem_at c.args.self.now.problem.now).nodes)));
    }

pub offset_bounds-marks-i : goal.offset_bounds-marks-i
offset_bounds-marks-i c = omega (arith, nodes-length (problem_at c.args.self.now.problem.now).nodes, c.args.self.now.filled.nodes)

pub bounds-marks-i : goal.bounds-marks-i
bounds-marks-i c = omega (arith, nodes-length (problem_at c.args.self.now.problem.now).nodes, c.args.self.now.filled.nodes)

pub loop-i-preserved : goal.loop-i-preserved
unfolding dag_of
loop-i-preserved c = (
  length-set c.loop-i.marks _ _ ∙ c.loop-i.invariant.0,
  marked_more (dag_at c.args.self.now.problem.now) c.loop-i.marks _ c.loop-i.invariant.1
      (omega (arith, nodes-length (problem_at c.args.self.now.problem.now).nodes, c.args.self.now.filled.nodes)) c.mark_node-m.ensures.is c.mark_node-m.ensures.unnamed,
)

pub returns : goal.returns
unfolding dag_of
returns c =
    record {
      at = λ k h. c.loop-i.invariant.1.at k (omega (arith, c.node_count-i-end.ensures));
      past = λ k h. c.loop-i.invariant.1.past k (omega (arith, c.node_count-i-end.ensures));
      unnamed = c.loop-i.invariant.1.unnamed;
    }
