-- `arrays` meets its contract: before turn k, the lines of the entries before it are written. Assumes nothing.
use Rattle.echo_bytes.specs.Page.{page}
use Rattle.lent.specs.Lent.{dag_at}
use Rattle.echo_decls.specs.NumberedLines.{LinesWritten}
use Rattle.echo_decls.specs.DeclaredLines.{array_line}
use Rattle.echo_decls.proofs.Declarations.arrays.Given as goal

abbrev pub invariant-loop-k : goal.invariant-loop-k
invariant-loop-k l = LinesWritten (array_line (dag_at l.self.problem.now)) l.k (page l.initial.q l.initial.out) (page l.q l.out)
