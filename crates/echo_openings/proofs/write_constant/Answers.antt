-- `echo_openings::write_constant` meets its contract: two bytes and the digits, stored whole. Assumes nothing.
use native.Mathlib.Omega.{arith}
use Rattle.lists.specs.Bytes.{bytes}
use Rattle.echo_bytes.proofs.Copying.{written-led}
use Rattle.echo_bytes.proofs.Digits.{length_digits}
use Rattle.echo_openings.proofs.write_constant.Goals as goal

pub returns-then-bits-le64 : goal.returns-then-bits-le64
unfolding bytes
returns-then-bits-le64 c =
    let l = length_digits c.args.bits.now in
    written-led _ _ _ _ _ (omega (arith, l)) _ _ (omega (arith, l)) c.write_eights.ensures (rw l c.moved.ensures)
