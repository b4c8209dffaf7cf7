-- `roots_told` meets its contract: the roots from the place on decide the answer. Assumes nothing.
use Rattle.std.proofs.Common.{arith, sym, ◌∙◌}
use Rattle.std.proofs.lemmas.Result.{err_from_is_err_and}
use Rattle.refusals.specs.Numbers.{error-number}
use Rattle.echo_bindings.specs.Checking.{whole-pass, roots-stop, roots-pass, roots-end}
use Rattle.echo_bindings.proofs.Sharing.roots_told.Goals as goal

pub returns-then-is_ok : goal.returns-then-is_ok
returns-then-is_ok c = whole-pass c.args.self.now.known c.args.roots.now _ (sym c.is_ok.ensures.value ∙ c.if-is_ok.true) c.roots_told.ensures

pub returns-in_err-assertion_told : goal.returns-in_err-assertion_told
returns-in_err-assertion_told c =
    let p = err_from_is_err_and c.from_residual.result c.from_residual.ensures.1 in
    rw (p.1, p.2)
    (roots-stop _ _ _ c.args.roots.now c.loop-root.root-index c.loop-root.invariant (omega arith) c.in_err-assertion_told.ensures
    (omega (arith, error-number c.in_err-assertion_told.field-0.0)))

pub loop-root-preserved : goal.loop-root-preserved
loop-root-preserved c = roots-pass _ _ _ c.args.roots.now c.loop-root.root-index c.loop-root.invariant (omega arith) c.in_ok-assertion_told.ensures (omega arith)

pub returns : goal.returns
returns c = roots-end _ _ _ c.args.roots.now c.loop-root.root-index c.loop-root.invariant (omega arith)
