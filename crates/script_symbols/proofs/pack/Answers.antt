-- `pack` meets its contract: at each turn the last bytes are packed, as many as the loop has passed.
use Rattle.std.proofs.Common.{length, arith}
use Rattle.std.proofs.lemmas.List.{length_push}
use Rattle.std.proofs.lemmas.Iterator.Adapters.{YieldsList-from_rev_slice}
use Rattle.std.proofs.lemmas.Iterator.Consumers.{YieldsList-turn}
use Rattle.script_symbols.specs.Packed.{behind-none, behind-fits, behind-more}
use Rattle.script_symbols.proofs.pack.Goals as goal

pub loop-c-init : goal.loop-c-init
loop-c-init c = behind-none c.args.w.now

pub overflow_mul-v : goal.overflow_mul-v
overflow_mul-v c =
    let t = YieldsList-turn (YieldsList-from_rev_slice c.args.w.now cc) c.loop-c.yielded _ c.loop-c.yielded_by _ _ c.in-Some.c c.in-Some.is c.next.ensures.steps in
    omega (arith, (behind-fits c.args.w.now (length c.loop-c.yielded) c.in-Some.c.now c.loop-c.v t (λ i. omega (arith, c.type_inv.w i)) c.loop-c.invariant c.requires).0)

pub overflow_add-v : goal.overflow_add-v
overflow_add-v c =
    let t = YieldsList-turn (YieldsList-from_rev_slice c.args.w.now cc) c.loop-c.yielded _ c.loop-c.yielded_by _ _ c.in-Some.c c.in-Some.is c.next.ensures.steps in
    let f = behind-fits c.args.w.now (length c.loop-c.yielded) c.in-Some.c.now c.loop-c.v t (λ i. omega (arith, c.type_inv.w i)) c.loop-c.invariant c.requires in
    omega (arith, f.0, f.1, c.from.ensures)

pub loop-c-preserved : goal.loop-c-preserved
loop-c-preserved c =
    let t = YieldsList-turn (YieldsList-from_rev_slice c.args.w.now cc) c.loop-c.yielded _ c.loop-c.yielded_by _ _ c.in-Some.c c.in-Some.is c.next.ensures.steps in
    rw (length_push c.loop-c.yielded c.in-Some.c, c.from.ensures) (behind-more c.args.w.now (length c.loop-c.yielded) c.in-Some.c.now c.loop-c.v t (λ i. omega (arith, c.type_inv.w i)) c.loop-c.invariant)
