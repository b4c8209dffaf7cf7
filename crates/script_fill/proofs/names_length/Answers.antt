-- `names_length` meets its contract: n is the length of the first i names, within the limit.
use Rattle.std.proofs.Common.{arith}
use Rattle.script_fill.specs.Turns.{summed-none, summed_more, summed-over, summed_all}
use Rattle.script_fill.proofs.names_length.Goals as goal

pub loop-i-init : goal.loop-i-init
loop-i-init c = summed-none _ _ _

pub name_of-size-requires : goal.name_of-size-requires
name_of-size-requires c = c.requires.place c.loop-i.i c.loop-i-test.true

pub returns-then-size-n : goal.returns-then-size-n
returns-then-size-n c = summed-over c.loop-i.invariant c.name_of-size.ensures c.loop-i-test.true c.if-size-n.true

pub loop-i-preserved : goal.loop-i-preserved
loop-i-preserved c = summed_more c.loop-i.invariant c.name_of-size.ensures (omega arith)

pub returns : goal.returns
returns c = summed_all c.loop-i.invariant (omega arith)
