-- `echo_tables::arguments_told` meets its contract: the arguments from the place on decide the answer. Assumes nothing.
use Rattle.std.proofs.Common.{arith}
use Rattle.std.proofs.lemmas.Result.{err_from_is_err_and}
use Rattle.echo_spec.specs.Walk.{vector}
use Rattle.refusals.specs.Numbers.{error-number}
use Rattle.echo_tables.specs.Marks.{use_of}
use Rattle.echo_tables.specs.Uses.{entry-stops, entry-passes, entries-end}
use Rattle.echo_tables.proofs.arguments_told.Goals as goal

pub returns-in_err-use_of : goal.returns-in_err-use_of
returns-in_err-use_of c =
    let p = err_from_is_err_and c.from_residual.result c.from_residual.ensures.1 in
    rw (p.1, p.2)
    (entry-stops (use_of c.args.marks.now) vector c.args.args.now c.loop-x.x-index c.loop-x.invariant (omega arith) c.in_err-use_of.ensures
    (omega (arith, error-number c.in_err-use_of.field-0.0)))

pub loop-x-preserved : goal.loop-x-preserved
loop-x-preserved c =
    entry-passes (use_of c.args.marks.now) vector c.args.args.now c.loop-x.x-index c.loop-x.invariant (omega arith) c.in_ok-use_of.ensures (omega arith)

pub returns : goal.returns
returns c = entries-end (use_of c.args.marks.now) vector c.args.args.now c.loop-x.x-index c.loop-x.invariant (omega arith)
