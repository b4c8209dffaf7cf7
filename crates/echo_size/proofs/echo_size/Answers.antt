-- `echo_size::echo_size` meets its contract. Assumes nothing.
use Rattle.std.proofs.lemmas.Result.{err_from_is_err_and}
use Rattle.lent.specs.Lent.{problem_at}
use Rattle.echo_size.proofs.Sizing.{measure-told}
use Rattle.echo_size.proofs.echo_size.Goals as goal

pub returns-in_err-n : goal.returns-in_err-n
returns-in_err-n c =
    let p = err_from_is_err_and c.from_residual.result c.from_residual.ensures.1 in
    rw (p.1, p.2) (measure-told (problem_at c.args.problem.now) _ c.measure.new.ws c.in_err-n.ensures)
