-- The number and the positions of what `fewest_roots` answers, and what is known on the way to it.
use Rattle.std.specs.Prelude.{ℕ, ◌<◌, ◌≡◌, List, [], ◌∷◌, true, length, get_or, Option, Some, None, Result, Ok, Err, ⊤}
use Rattle.echo_spec.specs.Input.{Problem, Dag, nodes_of, dag_of}
use Rattle.echo_spec.specs.Names.{names_ok}
use Rattle.echo_spec.specs.Sharing.{unshared}
use Rattle.echo_spec.specs.Walk.{walk_roots}
use Rattle.refusals.specs.declared.EchoError.{EchoError}
use Rattle.refusals.specs.Numbers.{error_number}
use Rattle.echo_script.specs.Prepared.{WellFormed}
use Rattle.fewest.specs.Fewest.{FewestAnswer}
use Rattle.fewest.specs.Refused.{FirstRefused}
use Rattle.fewest_roots.specs.declared.Fewest.{Fewest}
use Rattle.fewest_sharing.specs.declared.FewestRoots.{FewestRoots}
use Rattle.fewest_sharing.specs.declared.FewestRoots.TheVariants.{Empty, One, Two}
use Rattle.fewest_roots.specs.declared.Refused.{Refused}

-- 0 where nothing is refused
abbrev pub refusal_number : Option EchoError → ℕ
refusal_number None = 0
refusal_number (Some e) = error_number e

abbrev pub roots_positions : FewestRoots → List ℕ
roots_positions Empty = []
roots_positions (One k) = k ∷ []
roots_positions (Two j k) = j ∷ k ∷ []

abbrev pub number : Fewest → ℕ
number f = refusal_number f.refusal

abbrev pub positions : Fewest → List ℕ
positions f = roots_positions f.roots

abbrev pub answered : Fewest → FewestAnswer
answered f = record { number = number f; positions = positions f }

-- as the checks tell it
abbrev pub told : Result ⊤ Refused → FewestAnswer
told (Ok x) = record { number = 0; positions = [] }
told (Err r) = record { number = error_number r.0; positions = roots_positions r.1 }

-- the first root that is refused, with its refusal; none where none is
abbrev pub Walked : Dag → List ℕ → List ℕ → Option (ℕ × EchoError) → Type 0
Walked d ws roots None = (j : ℕ) → j < length roots → walk_roots d ws (get_or roots j 0 ∷ []) ≡ 0
Walked d ws roots (Some r) = FirstRefused d ws roots (error_number r.1) r.0

-- well formed, its names allowed, and no operator shared
pub record Apart (p : Problem) (ws : List ℕ) : Type 0 where
  pub formed : WellFormed p ws
  pub named : names_ok (dag_of p) ≡ true
  pub apart : unshared (nodes_of p.nodes) p.side p.roots ≡ true
