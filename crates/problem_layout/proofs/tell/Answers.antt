-- `problem_layout::tell` meets its contract: what is told in place of what would be written has its line. Assumes nothing.
use Rattle.problem_layout.proofs.Texts.{line-in, line-inside, at-start}
use Rattle.problem_layout.proofs.Saying.{shown-as}
use Rattle.problem_layout.proofs.tell.Goals as goal

pub returns-in-Err-clause-shown : goal.returns-in-Err-clause-shown
returns-in-Err-clause-shown g c = let w = at-start _ _ c.start.ensures c.line-q.ensures in shown-as _ c.in-Err.is (line-in _ _ w) (line-inside _ _ w)
