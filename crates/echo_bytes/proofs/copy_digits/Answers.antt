-- `echo_bytes::copy_digits` meets its contract: at the loop's test, the first j digits are stored, counted from the highest.
-- Assumes nothing.
use mathlib.Core.Path.{sym}
use native.Mathlib.Omega.{arith}
use Rattle.echo_bytes.proofs.Copying.{copied_none, copied_more, copied_all}
use Rattle.echo_bytes.proofs.Digits.{digit_at, digit-fits, length_digits}
use Rattle.echo_bytes.proofs.copy_digits.Goals as goal

pub loop-j-init : goal.loop-j-init
loop-j-init c = copied_none _ _ _ _

pub overflow_add-out : goal.overflow_add-out
overflow_add-out c = digit-fits c.args.ds.now _ c.requires.2

pub loop-j-preserved : goal.loop-j-preserved
loop-j-preserved c =
    let ds = c.args.ds.now in
    copied_more _ c.loop-j.invariant (omega arith) (omega (arith, length_digits ds)) (omega arith)
    (sym (digit_at ds c.loop-j.j (omega arith)))

pub returns : goal.returns
returns c = copied_all c.loop-j.invariant (omega arith)
