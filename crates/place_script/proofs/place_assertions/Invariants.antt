-- `place_assertions` meets its contract: at each turn the assertions before the place reached are read and placed, and their nodes are the first roots.
use Rattle.std.proofs.Common.{◌-◌, length}
use Rattle.place_script.specs.Placing.{Placing}
use Rattle.place_script.proofs.place_assertions.Given as goal

abbrev pub invariant-loop-a : goal.invariant-loop-a
invariant-loop-a l = Placing l.script.text.now l.script.table.now l.script.header l.initial.heap l.from l.heap l.roots l.k l.p

abbrev pub decreases-loop-a : goal.decreases-loop-a
decreases-loop-a l = length l.script.text.now - l.p
