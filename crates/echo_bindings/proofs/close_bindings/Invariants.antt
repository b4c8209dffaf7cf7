-- `close_bindings` meets its contract: the brackets of the first nodes are written. Assumes nothing.
use Rattle.std.proofs.Common.{length}
use Rattle.echo_bytes.specs.Page.{page}
use Rattle.echo_bindings.specs.Checking.{flagged}
use Rattle.echo_bindings.specs.LetLines.{SoFar, closing}
use Rattle.echo_bindings.proofs.close_bindings.Given as goal

abbrev pub invariant-loop-b : goal.invariant-loop-b
invariant-loop-b l = SoFar (closing (flagged l.bound)) (length l.bound) (page l.initial.q l.initial.out) l.b-index (page l.q l.out)
