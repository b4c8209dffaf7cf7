-- The roots' texts as the writers make them, one assertion each.
use Rattle.std.specs.Prelude.{ℕ, suc, ◌<◌, ◌≡◌, refl, List, [], ◌∷◌, ◌++◌, length, get_or}
use Rattle.std.proofs.Common.{arith, ◌∙◌, append_assoc}
use Rattle.lists.specs.Bytes.{bytes}
use Rattle.echo_spec.specs.Input.{Dag}
use Rattle.echo_spec.specs.Trees.{trees_over, tree_of}
use Rattle.echo_spec.specs.Render.{term, assertions_text}
use Rattle.echo_walk.specs.declared.Walk.{Walk}
use Rattle.echo_walk.specs.Walks.{Fine}

-- one assertion, over the texts of nodes
unfoldable pub root_text : (ℕ → List ℕ) → ℕ → List ℕ
root_text g r = bytes "(assert" ++ ((32 ∷ g r) ++ bytes ")\n")

unfoldable pub roots_text : (ℕ → List ℕ) → List ℕ → List ℕ
roots_text g [] = []
roots_text g (r ∷ rs) = root_text g r ++ roots_text g rs

-- each of them may be written
pub record AllFine (W : Walk) (roots : List ℕ) : Type 0 where
  pub at : (k : ℕ) → k < length roots → Fine W (get_or roots k 0)

-- the roots' texts are the assertions
pub roots-are : (g : ℕ → List ℕ) (d : Dag) (ws bits roots : List ℕ) → ((k : ℕ) → k < length roots → g (get_or roots k 0) ≡ term (tree_of d ws bits (get_or roots k 0)))
    → roots_text g roots ≡ assertions_text (trees_over (tree_of d ws bits) roots)
unfolding roots_text root_text trees_over assertions_text bytes
roots-are g d ws bits [] h = refl
roots-are g d ws bits (r ∷ rs) h =
    let t : List ℕ = term (tree_of d ws bits r) in
    let rest : List ℕ = assertions_text (trees_over (tree_of d ws bits) rs) in
    let e : (bytes "(assert" ++ ((32 ∷ t) ++ bytes ")\n")) ++ rest ≡ bytes "(assert" ++ ((32 ∷ t) ++ (bytes ")\n" ++ rest)) = simp append_assoc in
    (λ i. (bytes "(assert" ++ ((32 ∷ h 0 (omega arith) i) ++ bytes ")\n")) ++ roots-are g d ws bits rs (λ k l. h (suc k) (omega arith)) i) ∙ e
