-- `trace_rows::rows` meets its contract. The loop keeps: the first j places have the rows' masks and counts. Assumes nothing.
use Rattle.trace_rows.specs.Rows.{DoneOf}
use Rattle.trace_rows.proofs.rows.Given as goal

abbrev pub invariant-loop-j : goal.invariant-loop-j
invariant-loop-j l = DoneOf l.evaluation l.values l.roots l.initial.masks l.initial.counts l.j l.masks l.counts
