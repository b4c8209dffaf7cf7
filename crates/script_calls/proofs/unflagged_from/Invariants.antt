-- At each turn every function before this one has its flag.
use Rattle.std.proofs.Common.{◌≡◌, ℕ, ◌≤◌, ◌<◌, get_or, true, false}
use Rattle.script_calls.proofs.unflagged_from.Given as goal

abbrev pub invariant-loop-g : goal.invariant-loop-g
invariant-loop-g l = (k : ℕ) → k < l.g → l.from ≤ k → get_or l.flags k false ≡ true
