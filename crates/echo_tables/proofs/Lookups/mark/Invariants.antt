-- `echo_tables::Lookups::mark` meets its contract. The loop keeps: the first i nodes have their marks. Assumes nothing.
use Rattle.std.proofs.Common.{◌≡◌, length}
use Rattle.lent.specs.Lent.{dag_at}
use Rattle.echo_tables.specs.Filling.{MarkedTo}
use Rattle.echo_tables.proofs.Lookups.mark.Given as goal

abbrev pub invariant-loop-i : goal.invariant-loop-i
invariant-loop-i l = (length l.marks ≡ 2048) × MarkedTo (dag_at l.self.problem.now) l.self.widths.now l.i l.marks
