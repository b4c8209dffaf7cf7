-- The lines of the map file as the writers make them.
use Rattle.std.specs.Prelude.{ℕ, ◌≡◌, refl, List, [], ◌∷◌, ◌++◌}
use Rattle.std.proofs.Common.{◌∙◌, append_assoc}
use Rattle.lists.specs.Bytes.{bytes}
use Rattle.echo_spec.specs.Input.{Problem, Dag, dag_of}
use Rattle.echo_spec.specs.Trees.{trees_over, tree_of}
use Rattle.formula_text.specs.Notation.{formulas}
use Rattle.echo_openings.specs.NodeText.{placed_tree, placed-none}

-- each after the other, over the texts of nodes
unfoldable pub lines_text : (ℕ → List ℕ) → List ℕ → List ℕ
lines_text g [] = []
lines_text g (r ∷ rs) = (g r ++ (10 ∷ [])) ++ lines_text g rs

-- over the widths ws
abbrev pub lines_with : Problem → List ℕ → List ℕ
lines_with p ws = formulas (trees_over (tree_of (dag_of p) ws p.bits) p.roots)

pub lines_are : (d : Dag) (ws bits roots : List ℕ) → lines_text (λ r. placed_tree 0 (tree_of d ws bits r)) roots ≡ formulas (trees_over (tree_of d ws bits) roots)
unfolding lines_text trees_over formulas bytes
lines_are d ws bits [] = refl
lines_are d ws bits (r ∷ rs) =
    let e = placed-none (tree_of d ws bits r) in
    let f = lines_are d ws bits rs in
    append_assoc (placed_tree 0 (tree_of d ws bits r)) (10 ∷ []) (lines_text (λ r. placed_tree 0 (tree_of d ws bits r)) rs) ∙ (λ i. e i ++ (10 ∷ f i))
