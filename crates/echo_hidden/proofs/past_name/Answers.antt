-- `echo_hidden::past_name` meets its contract: what is left to cover stays the same from byte to byte. Assumes nothing.
use Rattle.std.proofs.Common.{◌≡◌, refl, length, arith}
use Rattle.echo_hidden.specs.Covered.{outside, name-ends, name-goes-on, came-next, came-end}
use Rattle.echo_hidden.proofs.past_name.Goals as goal

pub returns-then-out-k-eq124 : goal.returns-then-out-k-eq124
returns-then-out-k-eq124 c = came-next c.loop-k.invariant (omega arith) refl (name-ends _ _ (omega arith) c.if-out-k-eq124.true)

pub loop-k-preserved : goal.loop-k-preserved
loop-k-preserved c = came-next c.loop-k.invariant (omega arith) refl (name-goes-on _ _ (omega arith) c.if-out-k-eq124.false)

pub returns : goal.returns
returns c =
    let e : length c.args.out.now ≡ c.loop-k.k = omega (arith, c.loop-k.invariant.inside) in
    rw e (came-end c.loop-k.invariant outside (omega arith))
