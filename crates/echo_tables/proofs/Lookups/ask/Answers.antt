-- `echo_tables::Lookups::ask` meets its contract, arm by arm. Assumes nothing.
use Rattle.std.proofs.Common.{sym, ◌∙◌, arith, refl, length, ltb, ltb-true}
use Rattle.std.proofs.lemmas.Result.{err_from_is_err_and}
use Rattle.echo_spec.specs.Input.{dag_of}
use Rattle.echo_spec.specs.ColumnLaws.{names-counted}
use Rattle.lent.specs.Lent.{dag_at}
use Rattle.echo_tables.specs.Uses.{else_stops, else_goes, check-passed}
use Rattle.echo_tables.specs.Asked.{asked-variable, asked-rotation, asked-select, asked-call, asked-nothing}
use Rattle.echo_tables.proofs.Lookups.ask.Goals as goal

pub returns-in-Var : goal.returns-in-Var
returns-in-Var c = c.check.ensures ∙ asked-variable _ _ _ _ _ (sym c.in-Var.ensures.shape) c.variable_ok.ensures

pub returns-in-Rotation : goal.returns-in-Rotation
returns-in-Rotation c = c.check-in-Rotation.ensures ∙ asked-rotation _ _ _ _ _ (sym c.in-Rotation.ensures.shape) c.rotation_ok.ensures

pub returns-in-Select : goal.returns-in-Select
unfolding dag_of
returns-in-Select c =
    c.check-in-Select.ensures
    ∙ asked-select (dag_at c.args.self.now.problem.now) _ _ _ _ (sym c.in-Select.ensures.shape) (names-counted _ _ _)

pub returns-in_err-check-in-Call : goal.returns-in_err-check-in-Call
unfolding dag_of
returns-in_err-check-in-Call c =
    let p = err_from_is_err_and c.from_residual.result c.from_residual.ensures.1 in
    rw (p.1, p.2)
    (else_stops _ _ _ c.in_err-check-in-Call.ensures
    ∙ asked-call (dag_at c.args.self.now.problem.now) _ _ _ _ (sym c.in-Call.ensures.shape) (names-counted _ _ _) refl)

pub call_ok-requires : goal.call_ok-requires
call_ok-requires c =
    let here = ltb-true _ _ (check-passed (ltb c.args.n.a (length c.args.self.now.problem.now.fname_start.now)) 0 c.in_ok-check-in-Call.ensures) in
    omega (arith, here, c.args.self.now.filled.functions)

pub returns-in_ok-check-in-Call : goal.returns-in_ok-check-in-Call
unfolding dag_of
returns-in_ok-check-in-Call c =
    else_goes _ _ c.in_ok-check-in-Call.ensures c.check-in-Call-2.ensures
    ∙ asked-call (dag_at c.args.self.now.problem.now) _ _ _ _ (sym c.in-Call.ensures.shape) (names-counted _ _ _) c.call_ok.ensures

pub returns-in_default : goal.returns-in_default
returns-in_default c =
    rw (← c.from.ensures.shape)
    (asked-nothing _ _ _ _ _ c.in_default.not-Var c.in_default.not-Rotation c.in_default.not-Select c.in_default.not-Call)
