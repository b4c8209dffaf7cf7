-- `place_variables` meets its contract: at each turn the first k variables are nodes.
use Rattle.std.proofs.Common.{arith}
use Rattle.std.proofs.lemmas.Result.{err_from_is_err_and}
use Rattle.script_heap.specs.Laws.{told-own}
use Rattle.place_script.specs.Variables.{variable-next, variable-over, declared-end}
use Rattle.place_script.proofs.place_variables.Goals as goal

pub returns-in_err-add_variable : goal.returns-in_err-add_variable
returns-in_err-add_variable c =
    λ D κ h k. rw (err_from_is_err_and c.from_residual.result c.from_residual.ensures.1).1 (variable-over (c.loop-k.invariant D κ h k) c.variable_at-w.result (omega (arith, κ.variables, c.loop-k-test.true)) (c.variable_at-w.ensures D κ)
    c.add_variable.new.heap c.add_variable.result _ c.in_err-add_variable.was (told-own c.loop-k.heap c.add_variable.new.heap _ _ _ c.add_variable.result c.add_variable.ensures.bits (c.add_variable.ensures.told c.loop-k.heap.bits _ (c.loop-k.invariant D κ h k).held)))

pub loop-k-preserved : goal.loop-k-preserved
loop-k-preserved c =
    λ D κ h k. variable-next (c.loop-k.invariant D κ h k) c.variable_at-w.result (omega (arith, κ.variables, c.loop-k-test.true)) (c.variable_at-w.ensures D κ)
    c.add_variable.new.heap c.add_variable.result _ c.in_ok-add_variable.was (told-own c.loop-k.heap c.add_variable.new.heap _ _ _ c.add_variable.result c.add_variable.ensures.bits (c.add_variable.ensures.told c.loop-k.heap.bits _ (c.loop-k.invariant D κ h k).held))

pub returns : goal.returns
returns c = λ D κ h k. declared-end c.loop-k.k (c.loop-k.invariant D κ h k) (omega (arith, κ.variables, c.loop-k-test.false))
