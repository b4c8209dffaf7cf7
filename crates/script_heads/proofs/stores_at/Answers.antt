-- `stores_at` meets its contract: at each turn so many stores have opened.
use native.Mathlib.Omega.{arith}
use Rattle.lists.specs.Bytes.{bytes}
use Rattle.script_heads.specs.HeadLaws.{opening-start, opening-more, opening-less, opening-end}
use Rattle.script_heads.proofs.stores_at.Goals as goal

pub loop-q-init : goal.loop-q-init
loop-q-init c = opening-start c.requires

pub returns : goal.returns
unfolding bytes
returns c = opening-end c.loop-q.invariant c.in_default.ensures

pub loop-q-smaller : goal.loop-q-smaller
unfolding bytes
loop-q-smaller c = omega (arith, opening-less c.args.s.now c.loop-q.p c.in-Some.q c.loop-q.invariant.high c.in-Some.ensures.0 c.in-Some.ensures.1, c.in-Some.ensures.0)

pub loop-q-preserved : goal.loop-q-preserved
unfolding bytes
loop-q-preserved c = opening-more c.loop-q.invariant c.in-Some.ensures.0 c.in-Some.ensures.1
