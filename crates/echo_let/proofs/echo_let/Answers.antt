-- `echo_let` meets its contract. Assumes nothing.
use Rattle.std.proofs.Common.{arith}
use Rattle.echo_spec.specs.Input.{query_of}
use Rattle.lets.specs.Lets.{let_script, endless_let, echo_let_answer}
use Rattle.lent.specs.Lent.{problem_at}
use Rattle.echo_kernel.specs.Settled.{settled}
use Rattle.echo_let.proofs.echo_let.Goals as goal

pub returns : goal.returns
unfolding echo_let_answer
returns c =
    let p = problem_at c.args.problem.now in
    settled (endless_let p) (let_script (query_of p)) c.args.out.now (omega arith) c.let_checked-told.ensures (omega arith) c.settle.ensures.answer c.settle.ensures.buffer
