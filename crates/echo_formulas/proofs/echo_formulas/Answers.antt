-- `echo_formulas` meets its contract. Assumes nothing.
use native.Mathlib.Omega.{arith}
use Rattle.echo_spec.specs.Input.{query_of}
use Rattle.echo_spec.specs.Answers.{endless_refusal}
use Rattle.formula_answers.specs.Answers.{formula_lines, echo_formulas_answer}
use Rattle.lent.specs.Lent.{problem_at}
use Rattle.echo_kernel.specs.Settled.{settled}
use Rattle.echo_formulas.proofs.echo_formulas.Goals as goal

pub returns : goal.returns
unfolding echo_formulas_answer
returns c =
    let p = problem_at c.args.problem.now in
    settled (endless_refusal p) (formula_lines (query_of p)) c.args.out.now (omega arith) c.checked-told.ensures (omega arith) c.settle.ensures.answer c.settle.ensures.buffer
