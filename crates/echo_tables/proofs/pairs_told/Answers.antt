-- `echo_tables::pairs_told` meets its contract: the first k pairs decide the answer. Assumes nothing.
use Rattle.std.proofs.Common.{arith}
use Rattle.std.proofs.lemmas.Result.{err_from_is_err_and}
use Rattle.refusals.specs.Numbers.{error-number}
use Rattle.echo_tables.specs.Marks.{use_of}
use Rattle.echo_tables.specs.Uses.{index-stops, value-stops, pair-passes, pairs_end}
use Rattle.echo_tables.proofs.pairs_told.Goals as goal

pub returns-in_err-use_of : goal.returns-in_err-use_of
returns-in_err-use_of c =
    let p = err_from_is_err_and c.from_residual.result c.from_residual.ensures.1 in
    rw (p.1, p.2)
    (index-stops (use_of c.args.marks.now) c.args.side.now c.args.s c.loop-k.k c.loop-k.invariant (omega arith) (omega (arith, c.requires)) c.in_err-use_of.ensures
    (omega (arith, error-number c.in_err-use_of.field-0.0)))

pub returns-in_err-use_of-2 : goal.returns-in_err-use_of-2
returns-in_err-use_of-2 c =
    let p = err_from_is_err_and c.from_residual-in_err-use_of-2.result c.from_residual-in_err-use_of-2.ensures.1 in
    rw (p.1, p.2)
    (value-stops (use_of c.args.marks.now) c.args.side.now c.args.s c.loop-k.k c.loop-k.invariant (omega arith) (omega (arith, c.requires)) c.in_ok-use_of.ensures (omega arith)
    c.in_err-use_of-2.ensures (omega (arith, error-number c.in_err-use_of-2.field-0.0)))

pub loop-k-preserved : goal.loop-k-preserved
loop-k-preserved c =
    pair-passes (use_of c.args.marks.now) c.args.side.now c.args.s c.loop-k.k c.loop-k.invariant (omega arith) (omega (arith, c.requires)) c.in_ok-use_of.ensures (omega arith)
    c.in_ok-use_of-2.ensures (omega arith)

pub returns : goal.returns
returns c = pairs_end (use_of c.args.marks.now) c.args.side.now c.args.s c.loop-k.k c.loop-k.invariant (omega arith)
