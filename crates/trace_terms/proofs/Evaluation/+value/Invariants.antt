-- `trace_terms::Evaluation::value` meets its contract, by the laws of `Arms`, a few for each shape. The measure is the node's number. Assumes nothing.
use Rattle.trace_terms.proofs.Evaluation.+value.Given as goal

abbrev pub decreases-value : goal.decreases-value
decreases-value l = l.i
