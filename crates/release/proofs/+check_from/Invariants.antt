-- `check_from` meets its contract: what is left of the file tells the whole. The measure is the length that is left.
use Prim.Native.Nat.{◌-◌}
use lib.ListN.{length}
use Rattle.release.proofs.+check_from.Given as goal

abbrev pub decreases-check_from : goal.decreases-check_from
decreases-check_from l = length l.file.now - l.at
