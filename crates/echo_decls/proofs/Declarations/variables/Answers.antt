-- `variables` meets its contract: before turn k, the lines of the entries before it are written. Assumes nothing.
use native.Mathlib.Omega.{arith}
use Rattle.echo_spec.specs.Input.{dag_of}
use Rattle.lent.specs.Lent.{dag_at}
use Rattle.echo_decls.specs.NumberedLines.{none_written, more-written}
use Rattle.echo_decls.specs.DeclaredLines.{variables-written}
use Rattle.echo_decls.proofs.Declarations.variables.Goals as goal

pub loop-k-init : goal.loop-k-init
loop-k-init c = none_written _ _ (omega arith)

pub loop-k-preserved : goal.loop-k-preserved
loop-k-preserved c = more-written c.loop-k.invariant c.variable-q.ensures

pub returns : goal.returns
unfolding dag_of
returns c = variables-written (dag_at c.args.self.now.problem.now) c.loop-k.invariant (omega arith)
