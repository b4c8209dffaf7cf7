-- `layout_shape::read_shape` meets its contract: one input a turn. Assumes nothing.
use Rattle.std.proofs.Common.{refl}
use Rattle.layout_shape.proofs.Steps.{upto-start, count-missing, count-over, elements-missing, upto_next, bytes_left, read-whole, inside-read, all_read}
use Rattle.layout_shape.proofs.read_shape.Goals as goal

pub loop-k-init : goal.loop-k-init
loop-k-init c = upto-start _ refl

pub returns-then-s-at-lt8 : goal.returns-then-s-at-lt8
returns-then-s-at-lt8 c = count-missing c.loop-k.invariant c.loop-k-test.true c.if-s-at-lt8.true

pub returns-then-n-limit : goal.returns-then-n-limit
returns-then-n-limit c = count-over c.loop-k.invariant c.loop-k-test.true c.if-s-at-lt8.false c.word64-n.ensures c.limit.ensures.0 c.if-n-limit.true

pub returns-then-s-at : goal.returns-then-s-at
returns-then-s-at c = elements-missing c.loop-k.invariant c.loop-k-test.true c.if-s-at-lt8.false c.word64-n.ensures c.limit.ensures.0 c.if-n-limit.false c.span-m.ensures.0 c.if-s-at.true

pub loop-k-preserved : goal.loop-k-preserved
loop-k-preserved c = upto_next c.loop-k.invariant c.loop-k-test.true c.if-s-at-lt8.false c.word64-n.ensures c.limit.ensures.0 c.if-n-limit.false c.span-m.ensures.0 c.if-s-at.false

pub returns-then-at-s : goal.returns-then-at-s
returns-then-at-s c = bytes_left c.loop-k.invariant c.loop-k-test.false c.if-at-s.true

pub invariant_of-result : goal.invariant_of-result
invariant_of-result c = record { inside = inside-read (read-whole c.loop-k.invariant c.loop-k-test.false) }

pub returns : goal.returns
returns c = all_read c.loop-k.invariant c.loop-k-test.false c.if-at-s.false refl refl
