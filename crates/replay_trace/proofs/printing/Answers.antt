-- `replay_trace::printing` meets its contract. Assumes nothing.
use Rattle.std.proofs.Common.{◌≡◌, sym, ◌∙◌, arith, rules}
use Rattle.refusals.specs.Numbers.{refused, error_number}
use Rattle.lent.specs.Lent.{problem_at}
use Rattle.replay_trace.proofs.Replaying.{many-roots, then-printing}
use Rattle.replay_trace.proofs.printing.Goals as goal

pub returns-then-problem-gt-MAX_MASK : goal.returns-then-problem-gt-MAX_MASK
returns-then-problem-gt-MAX_MASK c = many-roots (problem_at c.args.problem.now) (omega arith)

pub returns-in_err-checked : goal.returns-in_err-checked
returns-in_err-checked c =
    let e : refused c.from_residual.result ≡ error_number c.in_err-checked.field-0.0 = search rules in
    then-printing (problem_at c.args.problem.now) (omega arith) (sym (e ∙ c.in_err-checked.ensures.told))

pub returns : goal.returns
returns c = then-printing (problem_at c.args.problem.now) (omega arith) c.in_ok-checked.ensures.told.0
