-- `visit` meets its contract.
use Rattle.std.proofs.Common.{arith}
use Rattle.echo_spec.specs.Input.{dag_of}
use Rattle.lets.specs.Lets.{operands_of}
use Rattle.lent.specs.Lent.{dag_at}
use Rattle.echo_reach.specs.Marks.{few-nodes, record-within, record_is, form-within, adds-operands, visited-free, visited-marked}
use Rattle.echo_reach.proofs.visit.Goals as goal

pub bounds-marks-i : goal.bounds-marks-i
bounds-marks-i c = omega (arith, c.requires.1, c.requires.2, few-nodes c.requires.0)

pub node_at-n-requires : goal.node_at-n-requires
node_at-n-requires c = record-within c.requires.0 _ c.requires.1

pub mark_form-requires : goal.mark_form-requires
unfolding dag_of
mark_form-requires c =
    form-within c.requires.0 _ c.requires.1 (record_is c.requires.0 _ c.requires.1 c.node_at-n.ensures) c.operands.ensures

pub returns-then-marks-i : goal.returns-then-marks-i
unfolding dag_of
returns-then-marks-i c =
    visited-marked (operands_of (dag_at c.args.problem.now) c.args.i) _ c.if-marks-i.true (adds-operands c.requires.0 _ c.requires.1 (record_is c.requires.0 _ c.requires.1 c.node_at-n.ensures) c.operands.ensures c.mark_form.ensures)

pub returns-else-marks-i : goal.returns-else-marks-i
returns-else-marks-i c =
    visited-free (operands_of (dag_at c.args.problem.now) c.args.i) _ c.if-marks-i.false
