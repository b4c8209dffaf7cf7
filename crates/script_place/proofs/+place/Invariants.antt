-- `place` and `place_term` meet their contract, by the laws of `Going` and `Turning`. The measure is what is left of the script, and `place` stands above `place_term` there; at each turn of the loop the operands up to the place reached are placed.
use Prim.Native.Nat.{◌+◌, ◌*◌, ◌-◌}
use lib.ListN.{length}
use Rattle.script_place.specs.Turning.{Turning}
use Rattle.script_place.proofs.+place.Given as goal

abbrev pub decreases-place_term : goal.decreases-place_term
decreases-place_term l = 2 * (length l.script.now.text.now - l.at)

abbrev pub decreases-place : goal.decreases-place
decreases-place l = 2 * (length l.script.now.text.now - l.at) + 1

abbrev pub invariant-place_term-loop-heap : goal.invariant-place_term-loop-heap
invariant-place_term-loop-heap l = Turning l.script.text.now l.script.table.now l.script.header l.initial.heap l.at l.levels l.x l.heap l.base l.w l.e l.v

abbrev pub decreases-place_term-loop-heap : goal.decreases-place_term-loop-heap
decreases-place_term-loop-heap l = length l.script.text.now - l.e
