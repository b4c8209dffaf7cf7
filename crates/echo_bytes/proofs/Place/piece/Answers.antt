-- `echo_bytes::Place::piece` meets its contract: at the loop's test, the first j digits are stored, and `left` has the others. Assumes nothing.
use mathlib.Core.Path.{refl}
use native.Mathlib.Omega.{arith}
use Rattle.echo_bytes.proofs.Copying.{copied_none, copied_more, copied_all, written-moved}
use Rattle.echo_bytes.proofs.Numerals.{length-padded, product-fits, behind-all, behind-digit, behind-next}
use Rattle.echo_bytes.proofs.Place.piece.Goals as goal

pub overflow_mul-left : goal.overflow_mul-left
overflow_mul-left c = omega (arith, product-fits c.args.n c.args.len _ c.requires.0 c.requires.1 c.requires.2 c.share.ensures)

pub loop-j-init : goal.loop-j-init
loop-j-init c = (copied_none _ _ _ _, behind-all c.args.n c.args.len _ c.requires.0 c.requires.1 c.requires.2 c.share.ensures)

pub overflow_cast-out : goal.overflow_cast-out
overflow_cast-out c = omega (arith, c.loop-j.invariant.1.digit)

pub overflow_add-out : goal.overflow_add-out
overflow_add-out c = omega (arith, c.loop-j.invariant.1.digit)

pub overflow_add-out-in-loop-j : goal.overflow_add-out-in-loop-j
overflow_add-out-in-loop-j c = omega (arith, c.fitting-k.ensures, c.loop-j-test.true)

pub loop-j-preserved : goal.loop-j-preserved
loop-j-preserved c =
    let args = c.args in
    let loop = c.loop-j in
    let more = length-padded args.len args.n in (
      copied_more _ loop.invariant.0 (omega arith) (omega (arith, more)) (omega arith) (behind-digit args.n args.len loop.j loop.left loop.invariant.1 (omega arith)),
      behind-next args.n args.len loop.j loop.left loop.invariant.1 (omega arith),
    )

pub returns : goal.returns
returns c =
    let args = c.args in
    written-moved _ _ _ _ _ _ (rw (length-padded args.len args.n) c.fitting-k.ensures) (rw (length-padded args.len args.n) refl)
    (copied_all c.loop-j.invariant.0 (omega arith)) c.moved.ensures
