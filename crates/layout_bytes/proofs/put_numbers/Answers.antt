-- `layout_bytes::put_numbers` meets its contract: the count and the numbers before the index are written. Assumes nothing.
use native.Mathlib.Omega.{arith}
use borrow.Author.Rules.{rules}
use Rattle.layout_bytes.proofs.Writing.{loop-begins, loop-goes-on, numbers-written}
use Rattle.layout_bytes.proofs.put_numbers.Goals as goal

pub loop-x-init : goal.loop-x-init
loop-x-init c = loop-begins _ c.args.xs.now (search rules)

pub loop-x-preserved : goal.loop-x-preserved
loop-x-preserved c = loop-goes-on _ c.args.xs.now c.loop-x.x-index (omega arith) c.loop-x.invariant c.put_number-q-in-loop-x.ensures

pub returns : goal.returns
returns c = numbers-written _ c.args.xs.now c.loop-x.x-index (omega arith) c.put_number-q.ensures c.loop-x.invariant
