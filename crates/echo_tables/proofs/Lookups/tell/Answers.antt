-- `echo_tables::Lookups::tell` meets its contract: what is asked of the node, or else its operands, whose marks are made. Assumes nothing.
use Rattle.std.proofs.Common.{arith, refl}
use Rattle.std.proofs.lemmas.Result.{err_from_is_err_and}
use Rattle.echo_spec.specs.Input.{dag_of}
use Rattle.refusals.specs.Numbers.{error-number}
use Rattle.lent.specs.Lent.{problem_at}
use Rattle.lent.specs.Records.{nodes-length}
use Rattle.echo_tables.specs.Uses.{marking-inside, marking-asked, marking-operands}
use Rattle.echo_tables.proofs.Lookups.tell.Goals as goal

pub ask-requires : goal.ask-requires
unfolding dag_of
ask-requires c =
    omega (arith, nodes-length (problem_at c.args.self.now.problem.now).nodes, c.requires.here, c.args.self.now.filled.nodes)

pub returns-in_err-ask : goal.returns-in_err-ask
returns-in_err-ask c =
    let p = err_from_is_err_and c.from_residual.result c.from_residual.ensures.1 in
    rw (p.1, p.2)
    (marking-asked c.args.self.now.problem.now c.args.self.now.filled.measured c.requires refl c.in_err-ask.ensures
    (omega (arith, error-number c.in_err-ask.field-0.0)))

pub operands_told-requires : goal.operands_told-requires
unfolding dag_of
operands_told-requires c =
    marking-inside c.args.self.now.problem.now c.args.self.now.filled.measured c.requires c.operands.ensures

pub returns : goal.returns
unfolding dag_of
returns c =
    marking-operands c.args.self.now.problem.now c.args.self.now.filled.measured c.requires c.operands.ensures c.in_ok-ask.ensures (omega arith) c.operands_told.ensures
