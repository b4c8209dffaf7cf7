-- `echo_tables::root_told` meets its contract: there are as many nodes as widths. Assumes nothing.
use Rattle.std.proofs.Common.{sym, ◌∙◌, arith, length, true, ltb, ltb-true, ltb-false}
use Rattle.std.proofs.lemmas.Result.{err_from_is_err_and}
use Rattle.lent.specs.Lent.{problem_at, dag_at}
use Rattle.echo_tables.specs.Refused.{walk-past}
use Rattle.echo_tables.specs.Uses.{use-walks, check-refused, check-passed}
use Rattle.echo_tables.proofs.root_told.Goals as goal

pub returns-in_err-check : goal.returns-in_err-check
returns-in_err-check c =
    let p = err_from_is_err_and c.from_residual.result c.from_residual.ensures.1 in
    let q = check-refused _ (ltb c.args.x (length c.args.ws.now)) 1 c.in_err-check.ensures in
    let past = ltb-false _ _ q.0 in
    rw (p.1, p.2) (q.1 ∙ sym (walk-past (dag_at c.args.problem.now) c.args.ws.now c.args.x (omega (arith, c.requires.measured.counted, past)) true))

pub returns : goal.returns
returns c =
    let here = ltb-true _ _ (check-passed (ltb c.args.x (length c.args.ws.now)) 0 c.in_ok-check.ensures) in
    c.use_of.ensures
    ∙ use-walks (dag_at c.args.problem.now) c.args.ws.now (length (problem_at c.args.problem.now).bits) c.requires.measured.widths c.requires.measured.counted
    c.args.marks.now (length (dag_at c.args.problem.now).nodes) c.requires.marked (omega arith) c.args.x true (omega (arith, c.requires.measured.counted, here))
