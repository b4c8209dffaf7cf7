-- `lent::clear` meets its contract. Assumes nothing.
use Rattle.std.proofs.Common.{◌≡◌, ◌++◌, drop, replicate}
use Rattle.lent.proofs.clear.Given as goal

abbrev pub invariant-loop-x : goal.invariant-loop-x
invariant-loop-x g l = l.out ≡ replicate l.x-index g.T.Zero.ZERO ++ drop l.x-index l.initial.out
