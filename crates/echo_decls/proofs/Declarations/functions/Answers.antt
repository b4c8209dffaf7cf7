-- `functions` meets its contract: before turn g, the lines of the entries before it are written. Assumes nothing.
use native.Mathlib.Omega.{arith}
use Rattle.echo_spec.specs.Input.{dag_of}
use Rattle.lent.specs.Lent.{dag_at}
use Rattle.echo_decls.specs.NumberedLines.{none_written, more-written}
use Rattle.echo_decls.specs.DeclaredLines.{functions-written}
use Rattle.echo_decls.proofs.Declarations.functions.Goals as goal

pub loop-g-init : goal.loop-g-init
loop-g-init c = none_written _ _ (omega arith)

pub loop-g-preserved : goal.loop-g-preserved
loop-g-preserved c = more-written c.loop-g.invariant c.function-q.ensures

pub returns : goal.returns
unfolding dag_of
returns c = functions-written (dag_at c.args.self.now.problem.now) c.args.self.now.widths.now c.loop-g.invariant (omega arith)
