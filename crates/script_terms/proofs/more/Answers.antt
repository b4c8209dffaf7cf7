-- `more` meets its contract, by what stands at the place.
use Rattle.std.proofs.Common.{Some, refl, ap, ◌∙◌, subst}
use Rattle.script_terms.specs.declared.Next.{Next}
use Rattle.script_terms.specs.Turns.{StandsAt}
use Rattle.script_terms.specs.TurnLaws.{more-none, more-done, more-operand}
use Rattle.script_terms.proofs.more.Goals as goal

pub returns-in-None : goal.returns-in-None
returns-in-None c = (λ D a x. more-none c.args.s.now c.args.w.now c.args.at.now D a x _ c.in-None.ensures.0 refl, λ n k. absurd (let z : ⊥ = cc in z))

pub returns-in-Some-Done : goal.returns-in-Some-Done
returns-in-Some-Done c =
    let e = c.in-Some-Done.is ∙ ap (λ (r : Next). Some r) c.in-Some-Done.field-0-is in
    (λ D a x. more-done c.args.s.now c.args.w.now c.args.at.now D a x _ c.next_at.ensures.0 e, λ n k. subst (StandsAt c.args.s.now c.args.at.now) e c.next_at.ensures.1)

pub returns-in-Some-Operand : goal.returns-in-Some-Operand
returns-in-Some-Operand c =
    let e = c.in-Some-Operand.is ∙ ap (λ (r : Next). Some r) c.in-Some-Operand.field-0-is in
    (λ D a x. more-operand c.args.s.now c.args.w.now c.args.at.now D a x _ c.next_at.ensures.0 e, subst (StandsAt c.args.s.now c.args.at.now) e c.next_at.ensures.1)
