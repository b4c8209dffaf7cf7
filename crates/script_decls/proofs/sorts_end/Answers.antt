-- `sorts_end` meets its contract: none, or a first one and those after it.
use Rattle.std.proofs.Common.{true, arith}
use Rattle.script_decls.specs.Tails.{sorts-end, sorts-close, sorts-first-none, sorts-first}
use Rattle.script_decls.proofs.sorts_end.Goals as goal

pub returns-then-at-s : goal.returns-then-at-s
returns-then-at-s c = sorts-end c.args.s.now c.args.at true c.if-at-s.true

pub returns-then-s-at-eq41 : goal.returns-then-s-at-eq41
returns-then-s-at-eq41 c = sorts-close c.args.s.now c.args.at true (omega (arith, c.if-at-s.false)) c.if-s-at-eq41.true

pub returns-in_err-width : goal.returns-in_err-width
returns-in_err-width c = rw c.from_residual.ensures (sorts-first-none c.args.s.now c.args.at (omega (arith, c.if-at-s.false)) c.if-s-at-eq41.false c.in_err-width.ensures)

pub returns : goal.returns
returns c = sorts-first c.args.s.now c.args.at c.in_ok-width.width.value c.in_ok-width.width.end (omega (arith, c.if-at-s.false)) c.if-s-at-eq41.false c.in_ok-width.ensures.0 c.in_ok-width.ensures.1 c.more_sorts.result c.more_sorts.ensures
