-- `echo_tables::rot_amount` meets its contract. The loop keeps: k is the value of the bits behind those that are left, modulo w. Assumes nothing.
use Rattle.std.proofs.Common.{◌-◌, ◌≡◌, length, ◌∙◌, arith}
use native.Mathlib.Nat.{mod-lt}
use Rattle.std.proofs.lemmas.List.{length_push}
use Rattle.std.proofs.lemmas.Iterator.Adapters.{YieldsList-from_rev_slice}
use Rattle.std.proofs.lemmas.Iterator.Consumers.{YieldsList-turn}
use Rattle.echo_tables.specs.Steps.{amount-none, amount-turn}
use Rattle.echo_tables.proofs.rot_amount.Goals as goal

pub loop-b-init : goal.loop-b-init
loop-b-init c =
    let e : length c.args.bits.now - 0 ≡ length c.args.bits.now = omega arith in
    (omega arith, rw e (amount-none c.args.bits.now c.args.w))

pub loop-b-preserved : goal.loop-b-preserved
loop-b-preserved c =
    let t = YieldsList-turn (YieldsList-from_rev_slice c.args.bits.now cc) c.loop-b.yielded _ c.loop-b.yielded_by _ _ c.in-Some.b c.in-Some.is c.next.ensures.steps in (
      rw c.doubled-k.ensures (mod-lt _ (omega arith)),
      rw (length_push c.loop-b.yielded c.in-Some.b) (c.doubled-k.ensures ∙ amount-turn c.args.bits.now c.args.w (length c.loop-b.yielded) t c.loop-b.invariant.1),
    )
