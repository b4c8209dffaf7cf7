-- `problem_layout::answer` meets its contract: by what was read and what the printer answered. Assumes nothing.
use borrow.Author.Rules.{rules}
use Rattle.problem_layout.proofs.Saying.{says-fault, handed-on, says-script, says-refused}
use Rattle.problem_layout.proofs.answer.Goals as goal

pub returns-in_err-parts : goal.returns-in_err-parts
returns-in_err-parts c = rw (handed-on c.from_residual.ensures.1) (says-fault _ c.read_shape.ensures _ c.in_err-parts.was)

pub returns-in_err-n : goal.returns-in_err-n
returns-in_err-n c = rw (handed-on c.from_residual-in_err-n.ensures.1) (says-refused _ c.read_shape.ensures c.in_ok-parts.was c.print_parts.ensures c.in_err-n.was)

pub returns : goal.returns
returns c = says-script _ c.read_shape.ensures c.in_ok-parts.was c.print_parts.ensures c.in_ok-n.was (search rules)
