-- `echo_openings::write_eights` meets its contract: after each turn eight digits more are stored. Assumes nothing.
use Prim.Native.Nat.{◌+◌, ◌*◌}
use native.Mathlib.Omega.{arith}
use Rattle.echo_bytes.proofs.Digits.{length_digits}
use Rattle.echo_openings.proofs.Storing.{stored_none, stored_all}
use Rattle.echo_openings.proofs.Digits.{digit-stored}
use Rattle.echo_openings.proofs.write_eights.Goals as goal

pub loop-i-init : goal.loop-i-init
loop-i-init c = stored_none _ (omega (arith, length_digits c.args.bits.now))

pub loop-i-preserved : goal.loop-i-preserved
loop-i-preserved c =
    let bits = c.args.bits.now in
    let k = 8 * c.loop-i.i in
    digit-stored bits (k + 7) _ (omega arith)
    (digit-stored bits (k + 6) (k + 7) (omega arith)
    (digit-stored bits (k + 5) (k + 6) (omega arith)
    (digit-stored bits (k + 4) (k + 5) (omega arith)
    (digit-stored bits (k + 3) (k + 4) (omega arith)
    (digit-stored bits (k + 2) (k + 3) (omega arith)
    (digit-stored bits (k + 1) (k + 2) (omega arith)
    (digit-stored bits k (k + 1) (omega arith) c.loop-i.invariant (omega arith) (omega arith) (omega arith) c.digit-a.ensures) (omega arith) (omega arith) (omega arith) c.digit-b.ensures) (omega arith) (omega arith) (omega arith) c.digit-c.ensures) (omega arith) (omega arith) (omega arith) c.digit-d.ensures) (omega arith) (omega arith) (omega arith) c.digit-e.ensures) (omega arith) (omega arith) (omega arith) c.digit-f.ensures) (omega arith) (omega arith) (omega arith) c.digit-g.ensures) (omega arith) (omega arith) (omega arith) c.digit-h.ensures

pub returns : goal.returns
returns c = stored_all c.loop-i.invariant (omega (arith, length_digits c.args.bits.now))
