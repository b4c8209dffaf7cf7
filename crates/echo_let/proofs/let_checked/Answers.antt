-- `let_checked` meets its contract: every check but the one for room, in order. Assumes nothing.
use Rattle.lent.specs.Lent.{problem_at}
use Rattle.let_script.specs.Printing.{checked-passed}
use Rattle.echo_let.proofs.let_checked.Goals as goal

pub returns : goal.returns
returns c = checked-passed (problem_at c.args.problem.now) c.in_ok-n.ensures.formed c.let_tables.ensures
