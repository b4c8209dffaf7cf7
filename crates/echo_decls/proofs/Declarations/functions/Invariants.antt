-- `functions` meets its contract: before turn g, the lines of the entries before it are written. Assumes nothing.
use Rattle.echo_bytes.specs.Page.{page}
use Rattle.lent.specs.Lent.{dag_at}
use Rattle.echo_decls.specs.NumberedLines.{LinesWritten}
use Rattle.echo_decls.specs.DeclaredLines.{function_line}
use Rattle.echo_decls.proofs.Declarations.functions.Given as goal

abbrev pub invariant-loop-g : goal.invariant-loop-g
invariant-loop-g l = LinesWritten (function_line (dag_at l.self.problem.now) l.self.widths.now) l.g (page l.initial.q l.initial.out) (page l.q l.out)
