-- `place_uncalled` meets its contract: at each turn the first g functions are through.
use Rattle.std.proofs.Common.{refl, arith}
use Rattle.std.proofs.lemmas.Result.{err_from_is_err_and}
use Rattle.rebuilt.specs.Built.{function_at}
use Rattle.place_script.specs.Uncalled.{uncalling-end, function-called, function-zeros, function-over}
use Rattle.place_script.proofs.place_uncalled.Goals as goal

pub call_on_zeros-requires : goal.call_on_zeros-requires
call_on_zeros-requires c = ((function_at c.requires.0 c.loop-g.g).arguments, ((c.loop-g.invariant c.requires.0 c.requires.1 c.requires.2 c.requires.5 c.requires.6).now, (c.function_at-f.ensures c.requires.0 c.requires.2).0, (c.loop-g.invariant c.requires.0 c.requires.1 c.requires.2 c.requires.5 c.requires.6).held, (c.loop-g.invariant c.requires.0 c.requires.1 c.requires.2 c.requires.5 c.requires.6).stacked))

pub returns-in_err-call_on_zeros : goal.returns-in_err-call_on_zeros
returns-in_err-call_on_zeros c =
    λ D first κ h k. rw (err_from_is_err_and c.from_residual.result c.from_residual.ensures.1).1 (function-over (c.loop-g.invariant D first κ h k) (omega (arith, κ.functions, c.loop-g-test.true)) c.if-called-g.false (function_at D c.loop-g.g).arguments c.function_at-f.result.width refl (c.function_at-f.ensures D κ).1
    c.call_on_zeros.new.heap c.call_on_zeros.result _ c.in_err-call_on_zeros.was (c.call_on_zeros.ensures (function_at D c.loop-g.g).arguments (c.loop-g.invariant D first κ h k).now (c.function_at-f.ensures D κ).0 (c.loop-g.invariant D first κ h k).held (c.loop-g.invariant D first κ h k).stacked))

pub loop-g-preserved-then-called-g : goal.loop-g-preserved-then-called-g
loop-g-preserved-then-called-g c = λ D first κ h k. function-called (c.loop-g.invariant D first κ h k) (omega (arith, κ.functions, c.loop-g-test.true)) c.if-called-g.true

pub loop-g-preserved : goal.loop-g-preserved
loop-g-preserved c =
    λ D first κ h k. function-zeros (c.loop-g.invariant D first κ h k) (omega (arith, κ.functions, c.loop-g-test.true)) c.if-called-g.false (function_at D c.loop-g.g).arguments c.function_at-f.result.width refl (c.function_at-f.ensures D κ).1
    c.call_on_zeros.new.heap c.call_on_zeros.result _ c.in_ok-call_on_zeros.was (c.call_on_zeros.ensures (function_at D c.loop-g.g).arguments (c.loop-g.invariant D first κ h k).now (c.function_at-f.ensures D κ).0 (c.loop-g.invariant D first κ h k).held (c.loop-g.invariant D first κ h k).stacked)

pub returns : goal.returns
returns c = λ D first κ h k. uncalling-end (c.loop-g.invariant D first κ h k) (omega (arith, κ.functions, c.loop-g-test.false))
