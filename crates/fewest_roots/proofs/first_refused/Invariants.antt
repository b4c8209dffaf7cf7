-- `fewest_roots::first_refused` meets its contract: the roots before position k are not refused. Assumes nothing.
use Rattle.std.specs.Prelude.{ℕ, ◌<◌, ◌≡◌, [], ◌∷◌, get_or}
use Rattle.echo_spec.specs.Walk.{walk_roots}
use Rattle.lent.specs.Lent.{dag_at}
use Rattle.fewest_roots.proofs.first_refused.Given as goal

abbrev pub invariant-loop-k : goal.invariant-loop-k
invariant-loop-k l = (j : ℕ) → j < l.k → walk_roots (dag_at l.problem) l.ws (get_or l.roots j 0 ∷ []) ≡ 0
