-- `trace_rows::mask` meets its contract. Assumes nothing.
use Rattle.std.proofs.Common.{◌-◌, ◌≡◌, length, arith}
use Rattle.std.proofs.lemmas.List.{length_push}
use Rattle.std.proofs.lemmas.Iterator.Adapters.{YieldsList-from_rev_slice}
use Rattle.std.proofs.lemmas.Iterator.Consumers.{YieldsList-turn}
use Rattle.trace_tables.specs.Digits.{from-back}
use Rattle.trace_rows.specs.Masks.{mask_start, mask_fits, root-turn, mask-turn, root-bit}
use Rattle.trace_rows.proofs.mask.Goals as goal

pub loop-i-init : goal.loop-i-init
loop-i-init c =
    let e : length c.args.roots.now - 0 ≡ length c.args.roots.now = omega arith in
    rw e (mask_start c.args.evaluation.now.terms.usable c.requires)

pub value-requires : goal.value-requires
value-requires c =
    let t = YieldsList-turn (YieldsList-from_rev_slice c.args.roots.now cc) c.loop-i.yielded _ c.loop-i.yielded_by _ _ c.in-Some.i c.in-Some.is c.next.ensures.steps in
    (root-turn c.args.evaluation.now.terms.usable c.requires (length c.loop-i.yielded) c.in-Some.i.now t).good

pub overflow_mul-m : goal.overflow_mul-m
overflow_mul-m c =
    let t = YieldsList-turn (YieldsList-from_rev_slice c.args.roots.now cc) c.loop-i.yielded _ c.loop-i.yielded_by _ _ c.in-Some.i c.in-Some.is c.next.ensures.steps in
    let f = from-back c.args.roots.now (length c.loop-i.yielded) c.in-Some.i.now t in
    omega (arith, mask_fits c.args.evaluation.now.terms.usable c.requires (length c.args.roots.now - length c.loop-i.yielded) c.loop-i.m (omega (arith, f.0)) c.loop-i.invariant)

pub overflow_add-m : goal.overflow_add-m
overflow_add-m c =
    let t = YieldsList-turn (YieldsList-from_rev_slice c.args.roots.now cc) c.loop-i.yielded _ c.loop-i.yielded_by _ _ c.in-Some.i c.in-Some.is c.next.ensures.steps in
    let f = from-back c.args.roots.now (length c.loop-i.yielded) c.in-Some.i.now t in
    let r = root-turn c.args.evaluation.now.terms.usable c.requires (length c.loop-i.yielded) c.in-Some.i.now t in
    let b = root-bit c.args.evaluation.now.terms.usable c.requires _ c.value.result.number r c.value.ensures.value in
    omega (arith, mask_fits c.args.evaluation.now.terms.usable c.requires (length c.args.roots.now - length c.loop-i.yielded) c.loop-i.m (omega (arith, f.0)) c.loop-i.invariant, b)

pub loop-i-preserved : goal.loop-i-preserved
loop-i-preserved c =
    let t = YieldsList-turn (YieldsList-from_rev_slice c.args.roots.now cc) c.loop-i.yielded _ c.loop-i.yielded_by _ _ c.in-Some.i c.in-Some.is c.next.ensures.steps in
    rw (length_push c.loop-i.yielded c.in-Some.i)
    (mask-turn c.args.evaluation.now.terms.usable c.requires (length c.loop-i.yielded) c.in-Some.i.now t c.loop-i.m c.value.result.number c.value.ensures.value c.loop-i.invariant)
