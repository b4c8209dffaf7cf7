-- `trace_rows::rows` meets its contract. The loop keeps: the first j places have the rows' masks and counts. Assumes nothing.
use Rattle.std.proofs.Common.{arith}
use Rattle.trace_rows.specs.Rows.{rows_next, row_is}
use Rattle.trace_rows.proofs.rows.Goals as goal

pub mask-m-requires : goal.mask-m-requires
mask-m-requires c = rw (row_is c.args.evaluation.now.terms.problem.var_width.now c.args.values.now c.loop-j.j) (c.requires.trace.at c.loop-j.j c.loop-j-test.true)

pub loop-j-preserved : goal.loop-j-preserved
loop-j-preserved c =
    rows_next _ _ _ _ _ _ _ _ _ c.loop-j.j c.mask-m.result c.from.result c.loop-j.masks c.loop-j.counts (omega arith) (omega arith)
    (rw (row_is c.args.evaluation.now.terms.problem.var_width.now c.args.values.now c.loop-j.j) at c.mask-m.ensures) c.from.ensures c.loop-j.invariant
