-- `more_sorts` meets its contract: at each turn, what is read from the place reached tells what is read from the start.
use Prim.Native.Nat.{◌+◌}
use mathlib.Core.Bool.{false}
use native.Mathlib.Omega.{arith}
use Rattle.echo_spec.specs.Input.{largest}
use Rattle.std.specs.Prelude.{Some, None}
use Rattle.script_decls.specs.Tails.{sorts-end, sorts-close, sorts-no-blank, sorts-more-none, sorts-more, past-sort}
use Rattle.script_decls.proofs.more_sorts.Goals as goal

pub returns-then-s-p-eq41 : goal.returns-then-s-p-eq41
returns-then-s-p-eq41 c = c.loop-p.invariant.1 (Some (c.loop-p.p + 1)) (sorts-close c.args.s.now c.loop-p.p false c.loop-p-test.true c.if-s-p-eq41.true)

pub returns-then-s-p-ne32 : goal.returns-then-s-p-ne32
returns-then-s-p-ne32 c = c.loop-p.invariant.1 None (sorts-no-blank c.args.s.now c.loop-p.p c.loop-p-test.true c.if-s-p-eq41.false c.if-s-p-ne32.true)

pub returns-in_err-width : goal.returns-in_err-width
returns-in_err-width c = rw c.from_residual.ensures (c.loop-p.invariant.1 None (sorts-more-none c.args.s.now c.loop-p.p c.loop-p-test.true c.if-s-p-ne32.false c.in_err-width.ensures))

pub loop-p-smaller : goal.loop-p-smaller
loop-p-smaller c = omega (arith, c.loop-p-test.true, c.in_ok-width.ensures.0, (past-sort largest c.args.s.now c.in_ok-width.width.value (c.loop-p.p + 1) c.in_ok-width.width.end (omega (arith, c.loop-p-test.true)) c.in_ok-width.ensures.0 c.in_ok-width.ensures.1).low)

pub loop-p-preserved : goal.loop-p-preserved
loop-p-preserved c = (c.in_ok-width.ensures.0, λ r h. c.loop-p.invariant.1 r (sorts-more c.args.s.now c.loop-p.p c.in_ok-width.width.value c.in_ok-width.width.end c.loop-p-test.true c.if-s-p-ne32.false c.in_ok-width.ensures.0 c.in_ok-width.ensures.1 r h))

pub returns : goal.returns
returns c = c.loop-p.invariant.1 None (sorts-end c.args.s.now c.loop-p.p false c.loop-p-test.false)
