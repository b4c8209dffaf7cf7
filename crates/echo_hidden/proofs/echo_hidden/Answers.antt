-- `echo_hidden` meets its contract: the printer's answer, covered, is the hidden form's. Assumes nothing.
use Rattle.std.proofs.Common.{Ok, Err, List, ℕ, ◌++◌, ap, sym, refl, drop}
use Rattle.std.proofs.Math.Seq.{length-take-le}
use Rattle.std.proofs.lemmas.Result.{err_from_is_err_and}
use Rattle.lent.specs.Lent.{problem_at}
use Rattle.echo_hidden.specs.Answering.{covered_by, covered_first, printed-inside, hidden-answered}
use Rattle.echo_hidden.proofs.echo_hidden.Goals as goal

pub returns-in_err-n : goal.returns-in_err-n
unfolding covered_by
returns-in_err-n c =
    let p = err_from_is_err_and c.from_residual.result c.from_residual.ensures.1 in
    rw (p.1, p.2) (hidden-answered (problem_at c.args.problem.now) c.args.out.now (Err c.in_err-n.field-0.0) c.in_err-n.ensures refl)

pub slice_bounds-cover-end : goal.slice_bounds-cover-end
slice_bounds-cover-end c = printed-inside (problem_at c.args.problem.now) c.args.out.now (Ok c.in_ok-n.n) c.echo_ext.new.out c.in_ok-n.ensures

pub slice_bounds-cover-end-2 : goal.slice_bounds-cover-end-2
slice_bounds-cover-end-2 c = sym (length-take-le _ _ (printed-inside (problem_at c.args.problem.now) c.args.out.now (Ok c.in_ok-n.n) c.echo_ext.new.out c.in_ok-n.ensures))

pub returns : goal.returns
unfolding covered_by covered_first
returns c =
    hidden-answered (problem_at c.args.problem.now) c.args.out.now (Ok c.in_ok-n.n) c.in_ok-n.ensures
    (ap (λ (x : List ℕ). x ++ drop c.in_ok-n.n c.echo_ext.new.out) c.cover.ensures)
