-- `trace_tables::constant` meets its contract. Assumes nothing.
use Rattle.std.proofs.Common.{◌-◌, ◌≡◌, length, arith}
use Rattle.std.proofs.lemmas.List.{length_push}
use Rattle.std.proofs.lemmas.Iterator.Adapters.{YieldsList-from_rev_slice}
use Rattle.std.proofs.lemmas.Iterator.Consumers.{YieldsList-turn}
use Rattle.trace_tables.specs.Digits.{upper-start, upper-turn}
use Rattle.trace_tables.proofs.constant.Goals as goal

pub loop-b-init : goal.loop-b-init
loop-b-init c =
    let e : length c.args.bits.now - 0 ≡ length c.args.bits.now = omega arith in
    rw e (upper-start c.args.bits.now)

pub loop-b-preserved : goal.loop-b-preserved
loop-b-preserved c =
    let t = YieldsList-turn (YieldsList-from_rev_slice c.args.bits.now cc) c.loop-b.yielded _ c.loop-b.yielded_by _ _ c.in-Some.b c.in-Some.is c.next.ensures.steps in
    rw (length_push c.loop-b.yielded c.in-Some.b, c.from.ensures) (upper-turn c.args.bits.now (length c.loop-b.yielded) c.in-Some.b.now c.loop-b.r t c.requires.digits c.loop-b.invariant)
