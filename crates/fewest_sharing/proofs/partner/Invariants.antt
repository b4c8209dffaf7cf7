-- `fewest_sharing::partner` meets its contract: no position between has the root. Assumes nothing.
use Rattle.std.proofs.Common.{◌≡◌, ℕ, ◌<◌, get_or}
use Rattle.fewest_sharing.proofs.partner.Given as goal

abbrev pub invariant-loop-k : goal.invariant-loop-k
invariant-loop-k l = (b : ℕ) → b < l.k → l.j < b → get_or l.roots l.j 0 ≡ get_or l.roots b 0 → ⊥
