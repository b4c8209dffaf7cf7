-- `echo_hidden::cover_digits` meets its contract: a digit is covered, and what is left to cover stays the same. Assumes nothing.
use Rattle.std.proofs.Common.{◌≡◌, refl, length, arith, length-set}
use Rattle.echo_hidden.specs.Covered.{outside, constant-ends, constant-goes-on, came-next, came-end}
use Rattle.echo_hidden.proofs.cover_digits.Goals as goal

pub returns-then-b-lt48 : goal.returns-then-b-lt48
returns-then-b-lt48 c = came-next c.loop-k.invariant (omega arith) refl (constant-ends _ _ (omega arith) c.if-b-lt48.true)

pub loop-k-preserved : goal.loop-k-preserved
loop-k-preserved c = came-next c.loop-k.invariant (omega arith) (simp length-set) (constant-goes-on _ _ (omega arith) c.if-b-lt48.false c.left_of.ensures)

pub returns : goal.returns
returns c =
    let e : length c.loop-k.out ≡ c.loop-k.k = omega (arith, c.loop-k.invariant.inside) in
    rw e (came-end c.loop-k.invariant outside (omega arith))
