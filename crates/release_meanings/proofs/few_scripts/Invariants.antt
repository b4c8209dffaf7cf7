-- `few_scripts` meets its contract: the scripts before the place and those after it are all.
use Prim.Native.Nat.{◌-◌}
use lib.ListN.{length}
use Rattle.release_meanings.specs.Cutting.{Counted}
use Rattle.release_meanings.proofs.few_scripts.Given as goal

abbrev pub invariant-loop-n : goal.invariant-loop-n
invariant-loop-n l = Counted l.file l.at l.k

abbrev pub decreases-loop-n : goal.decreases-loop-n
decreases-loop-n l = length l.file - l.at
