-- `trace_values::values_fit` meets its contract. The loop keeps: the first k values fit. Assumes nothing.
use Rattle.trace_values.specs.RowTests.{FitTo}
use Rattle.trace_values.proofs.values_fit.Given as goal

abbrev pub invariant-loop-k : goal.invariant-loop-k
invariant-loop-k l = FitTo l.widths l.values l.k
