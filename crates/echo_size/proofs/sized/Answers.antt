-- `echo_size::sized` meets its contract. Assumes nothing.
use Rattle.std.proofs.Common.{arith}
use Rattle.std.proofs.lemmas.Result.{err_from_is_err_and}
use Rattle.lent.specs.Lent.{problem_at}
use Rattle.echo_size.proofs.Sizing.{full-widths, prepare-told, countable, size-told}
use Rattle.echo_size.proofs.sized.Goals as goal

pub returns-in_err-prepare : goal.returns-in_err-prepare
returns-in_err-prepare c =
    let p = err_from_is_err_and c.from_residual.result c.from_residual.ensures.1 in
    rw (p.1, p.2) (prepare-told (problem_at c.args.formed.now.problem.now) c.args.formed.now.formed _ c.in_err-prepare.ensures.refused)

pub count_terms-requires : goal.count_terms-requires
count_terms-requires c = countable (problem_at c.args.formed.now.problem.now) c.args.formed.now.formed

pub returns : goal.returns
returns c =
    let p = problem_at c.args.formed.now.problem.now in
    size-told p c.args.formed.now.formed (c.in_ok-prepare.ensures.passed (omega arith)) (full-widths p c.fits.ensures c.fits-2.ensures) c.script_length.ensures c.count_terms.ensures
