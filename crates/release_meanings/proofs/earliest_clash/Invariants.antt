-- `earliest_clash` meets its contract: at each turn the scripts before the place are entered, and agree.
use Prim.Native.Nat.{◌-◌}
use lib.ListN.{length}
use Rattle.release_meanings.specs.Clashes.{Met}
use Rattle.release_meanings.proofs.earliest_clash.Given as goal

abbrev pub invariant-loop-n : goal.invariant-loop-n
invariant-loop-n l = Met l.file l.names.places l.names.links l.names.heads l.names.count l.at l.k

abbrev pub decreases-loop-n : goal.decreases-loop-n
decreases-loop-n l = length l.file - l.at
