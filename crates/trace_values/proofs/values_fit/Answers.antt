-- `trace_values::values_fit` meets its contract. The loop keeps: the first k values fit. Assumes nothing.
use Rattle.std.proofs.Common.{refl, ◌%◌, length}
use Rattle.trace_values.specs.RowTests.{part-row, fit_next, fit-fails, fit-whole}
use Rattle.trace_values.proofs.values_fit.Goals as goal

pub returns-then-not-is_multiple_of : goal.returns-then-not-is_multiple_of
returns-then-not-is_multiple_of c = part-row c.args.widths.now c.args.values.now c.is_multiple_of.ensures c.if-not-is_multiple_of.true

pub returns-then-not-fits : goal.returns-then-not-fits
returns-then-not-fits c =
    fit-fails c.args.widths.now c.args.values.now (c.loop-k.k % length c.args.widths.now) c.loop-k.k refl c.loop-k-test.true c.fits.ensures c.if-not-fits.true

pub loop-k-preserved : goal.loop-k-preserved
loop-k-preserved c =
    fit_next c.args.widths.now c.args.values.now (c.loop-k.k % length c.args.widths.now) c.loop-k.k refl c.fits.ensures c.if-not-fits.false c.loop-k.invariant

pub returns : goal.returns
returns c = fit-whole c.args.widths.now c.args.values.now (c.is_multiple_of.ensures.0 c.if-not-is_multiple_of.false) c.loop-k.k c.loop-k-test.false c.loop-k.invariant
