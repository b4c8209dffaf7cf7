-- `echo_ext` meets its contract. Assumes nothing.
use Rattle.std.proofs.Common.{arith}
use Rattle.echo_spec.specs.Input.{query_of}
use Rattle.echo_spec.specs.Answers.{script, endless_refusal, echo_ext_answer}
use Rattle.lent.specs.Lent.{problem_at}
use Rattle.echo_kernel.specs.Settled.{settled}
use Rattle.echo_kernel.proofs.echo_ext.Goals as goal

pub returns : goal.returns
unfolding echo_ext_answer
returns c =
    let p = problem_at c.args.problem.now in
    settled (endless_refusal p) (script (query_of p)) c.args.out.now (omega arith) c.checked-told.ensures (omega arith) c.settle.ensures.answer c.settle.ensures.buffer
