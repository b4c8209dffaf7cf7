-- `assertion_told` meets its contract: the bound nodes, and then the root. Assumes nothing.
use Rattle.std.proofs.Common.{arith}
use Rattle.std.proofs.lemmas.Result.{err_from_is_err_and}
use Rattle.refusals.specs.Numbers.{error-number}
use Rattle.echo_bindings.specs.Checking.{assertion-stops, assertion-ends}
use Rattle.echo_bindings.proofs.Sharing.assertion_told.Goals as goal

pub returns-in_err-bound_told : goal.returns-in_err-bound_told
returns-in_err-bound_told c =
    let p = err_from_is_err_and c.from_residual.result c.from_residual.ensures.1 in
    rw (p.1, p.2) (assertion-stops c.args.self.now.known c.args.root c.in_err-bound_told.ensures (omega (arith, error-number c.in_err-bound_told.field-0.0)))

pub returns : goal.returns
returns c = assertion-ends c.args.self.now.known c.args.root c.in_ok-bound_told.ensures (omega arith) c.roots_told.ensures
