-- `checked` meets its contract: every check but the one for room, in order. Assumes nothing.
use Rattle.std.proofs.lemmas.Result.{err_from_is_err_and}
use Rattle.lent.specs.Lent.{problem_at}
use Rattle.echo_script.proofs.Checking.{checked_refused, checked-passed}
use Rattle.echo_script.proofs.checked.Goals as goal

pub returns-in_err-n : goal.returns-in_err-n
returns-in_err-n c =
    let p = err_from_is_err_and c.from_residual.result c.from_residual.ensures.1 in
    rw (p.1, p.2) (checked_refused (problem_at c.args.problem.now) c.measure.new.ws c.in_err-n.ensures)

pub returns : goal.returns
returns c = checked-passed (problem_at c.args.problem.now) c.in_ok-n.ensures.formed c.from_names.ensures
