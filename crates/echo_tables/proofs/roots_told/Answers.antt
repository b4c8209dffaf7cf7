-- `echo_tables::roots_told` meets its contract: the roots from the place on decide the answer. Assumes nothing.
use Rattle.std.proofs.Common.{arith, refl}
use Rattle.std.proofs.lemmas.Result.{err_from_is_err_and}
use Rattle.echo_spec.specs.Walk.{formula, walk, walk_roots}
use Rattle.refusals.specs.Numbers.{error-number}
use Rattle.lent.specs.Lent.{dag_at}
use Rattle.echo_tables.specs.Uses.{entry-stops, entry-passes, entries-end}
use Rattle.echo_tables.proofs.roots_told.Goals as goal

pub loop-x-init : goal.loop-x-init
unfolding walk_roots
loop-x-init c = refl

pub returns-in_err-root_told : goal.returns-in_err-root_told
returns-in_err-root_told c =
    let p = err_from_is_err_and c.from_residual.result c.from_residual.ensures.1 in
    rw (p.1, p.2)
    (entry-stops (walk (dag_at c.args.problem.now) c.args.ws.now) formula c.args.roots.now c.loop-x.x-index c.loop-x.invariant (omega arith) c.in_err-root_told.ensures
    (omega (arith, error-number c.in_err-root_told.field-0.0)))

pub loop-x-preserved : goal.loop-x-preserved
loop-x-preserved c =
    entry-passes (walk (dag_at c.args.problem.now) c.args.ws.now) formula c.args.roots.now c.loop-x.x-index c.loop-x.invariant (omega arith) c.in_ok-root_told.ensures (omega arith)

pub returns : goal.returns
returns c =
    entries-end (walk (dag_at c.args.problem.now) c.args.ws.now) formula c.args.roots.now c.loop-x.x-index c.loop-x.invariant (omega arith)
