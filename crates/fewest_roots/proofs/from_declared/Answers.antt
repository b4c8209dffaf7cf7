-- `fewest_roots::from_declared` meets its contract: the checks of what is declared, and then the walk. Assumes nothing.
use Rattle.std.proofs.Common.{arith}
use Rattle.std.proofs.lemmas.Result.{err_from_is_err_and}
use Rattle.echo_spec.specs.Input.{dag_of}
use Rattle.refusals.specs.Numbers.{error-number}
use Rattle.lent.specs.Lent.{problem_at}
use Rattle.fewest.proofs.Refused.{bad-declaration, accepted, refused-root}
use Rattle.fewest_roots.proofs.Telling.{numbered}
use Rattle.fewest_roots.proofs.from_declared.Goals as goal

pub returns-in_err-fill : goal.returns-in_err-fill
returns-in_err-fill c =
    let p = problem_at c.args.formed.now.problem.now in
    let q = err_from_is_err_and c.from_residual.result c.from_residual.ensures.1 in
    rw (q.1, q.2) (bad-declaration p _ (numbered p _ c.requires.formed) c.requires.named c.requires.apart (c.in_err-fill.ensures.refused (omega (arith, error-number c.in_err-fill.field-0.0))))

pub first_refused-requires : goal.first_refused-requires
unfolding dag_of
first_refused-requires c =
    let f = c.in_ok-fill.ensures.filled (omega arith) in
    record { measured = record { widths = f.formed.widths; counted = f.formed.counted }; marked = f.marked }

pub returns-in-None : goal.returns-in-None
returns-in-None c =
    let p = problem_at c.args.formed.now.problem.now in
    accepted p _ (numbered p _ c.requires.formed) c.requires.named c.requires.apart (c.in_ok-fill.ensures.passed (omega arith)) c.in-None.ensures

pub returns-in-Some : goal.returns-in-Some
returns-in-Some c =
    let p = problem_at c.args.formed.now.problem.now in
    refused-root p _ (numbered p _ c.requires.formed) c.requires.named c.requires.apart (c.in_ok-fill.ensures.passed (omega arith)) c.in-Some.ensures
