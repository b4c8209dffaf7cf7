-- `echo_formulas::lines` meets its contract: one root a turn. Assumes nothing.
use lib.ListN.{drop}
use Rattle.echo_bytes.specs.Page.{page}
use Rattle.echo_walk.proofs.Laws.{Begun}
use Rattle.echo_openings.specs.Placed.{placed_at}
use Rattle.echo_formulas.specs.Lines.{lines_text}
use Rattle.echo_formulas.proofs.lines.Given as goal

abbrev pub invariant-loop-root : goal.invariant-loop-root
invariant-loop-root l = Begun (lines_text (placed_at l.walk 0) l.roots) (lines_text (placed_at l.walk 0) (drop l.root-index l.roots)) (page l.initial.q l.initial.out) (page l.q l.out)
