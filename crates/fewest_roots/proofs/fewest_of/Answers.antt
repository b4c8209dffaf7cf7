-- `fewest_roots::fewest_of` meets its contract. Assumes nothing.
use Rattle.std.proofs.lemmas.Result.{err_from_is_err_and}
use Rattle.lent.specs.Lent.{problem_at}
use Rattle.fewest.proofs.Refused.{refused-before}
use Rattle.fewest_roots.proofs.fewest_of.Goals as goal

pub returns-in_err-n : goal.returns-in_err-n
returns-in_err-n c =
    let p = err_from_is_err_and c.from_residual.result c.from_residual.ensures.1 in
    rw (p.1, p.2) (refused-before (problem_at c.args.problem.now) c.in_err-n.ensures)
