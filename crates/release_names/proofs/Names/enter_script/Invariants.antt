-- `enter_script` meets its contract: at each turn the lines up to the place are entered.
use Prim.Native.Nat.{◌-◌}
use lib.ListN.{length}
use Rattle.release_names.specs.Held.{Going}
use Rattle.release_names.proofs.Names.enter_script.Given as goal

abbrev pub invariant-loop-line : goal.invariant-loop-line
invariant-loop-line l =
    Going l.s l.initial.self.places l.initial.self.links l.initial.self.heads l.initial.self.count l.q l.self.places l.self.links l.self.heads l.self.count l.at

abbrev pub decreases-loop-line : goal.decreases-loop-line
decreases-loop-line l = length l.s - l.at
