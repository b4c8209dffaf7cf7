-- `problem_layout::print_problem` meets its contract: the answer, and then its line. Assumes nothing.
use Rattle.problem_layout.proofs.Saying.{tells}
use Rattle.problem_layout.proofs.print_problem.Goals as goal

pub tell-requires : goal.tell-requires
tell-requires c = c.answer.ensures.known

pub returns : goal.returns
returns c = tells c.answer.ensures c.tell.ensures.said c.tell.ensures.shown
