-- `fewest_sharing::first_pair` meets its contract: no root before this one is there again. Assumes nothing.
use Rattle.std.proofs.Common.{ℕ, ◌<◌}
use Rattle.fewest_sharing.specs.Found.{Single}
use Rattle.fewest_sharing.proofs.first_pair.Given as goal

abbrev pub invariant-loop-j : goal.invariant-loop-j
invariant-loop-j l = (a : ℕ) → a < l.j → Single l.shared l.roots a
