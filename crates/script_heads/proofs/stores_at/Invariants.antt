-- `stores_at` meets its contract: at each turn so many stores have opened.
use Prim.Native.Nat.{◌-◌}
use lib.ListN.{length}
use Rattle.script_heads.specs.HeadLaws.{Opening}
use Rattle.script_heads.proofs.stores_at.Given as goal

abbrev pub invariant-loop-q : goal.invariant-loop-q
invariant-loop-q l = Opening l.s l.at l.n l.p

abbrev pub decreases-loop-q : goal.decreases-loop-q
decreases-loop-q l = length l.s - l.p
