-- `first_told` meets its contract: the nodes that are left decide the answer. Assumes nothing.
use Rattle.std.proofs.Common.{rules, arith, ap, inl, inr}
use Rattle.std.proofs.lemmas.Result.{err_from_is_err_and}
use Rattle.refusals.specs.Numbers.{refused, error-number}
use Rattle.echo_bindings.specs.Checking.{left-stops, left-passes, left-free, flags-spent, marks-spent}
use Rattle.echo_bindings.proofs.first_told.Goals as goal

pub loop-m-init : goal.loop-m-init
loop-m-init c = search rules

pub loop-m-preserved-in-Continue-1 : goal.loop-m-preserved-in-Continue-1
loop-m-preserved-in-Continue-1 c = left-passes c.in-Some.ensures.steps.0 c.in-Some.ensures.steps.1 c.loop-m.invariant c.if-b.true (rw c.in_ok-m.was (omega arith))

pub returns-in_err-m : goal.returns-in_err-m
returns-in_err-m c =
    let p = err_from_is_err_and c.from_residual.result c.from_residual.ensures.1 in
    rw (p.1, p.2, ← ap refused c.in_err-m.was)
    (left-stops c.in-Some.ensures.steps.0 c.in-Some.ensures.steps.1 c.loop-m.invariant c.if-b.true (rw c.in_err-m.was (omega (arith, error-number c.in_err-m.field-0.0))))

pub loop-m-preserved : goal.loop-m-preserved
loop-m-preserved c = left-free c.in-Some.ensures.steps.0 c.in-Some.ensures.steps.1 c.loop-m.invariant c.if-b.false

pub returns : goal.returns
returns c =
    elim c.in-None.ensures.steps [
      | inl a ↦ marks-spent _ _ a.1.0 c.loop-m.invariant
      | inr a ↦ flags-spent _ _ a.1.0 c.loop-m.invariant
    ]
