-- The texts of the nodes of a walk: the opening, and the formula where a level is wanted.
use Rattle.std.specs.Prelude.{ℕ, List}
use Rattle.echo_spec.specs.Shapes.{Shape}
use Rattle.echo_spec.specs.Input.{shape}
use Rattle.echo_spec.specs.Trees.{tree_of}
use Rattle.echo_walk.specs.declared.Walk.{Walk}
use Rattle.echo_walk.specs.Walks.{problem_in, dag_in, widths_in, node_within}
use Rattle.echo_openings.specs.Openings.{opening_as}
use Rattle.echo_openings.specs.NodeText.{placed_tree}

-- the opening of node i, taken as one of this shape
abbrev pub opening_at : Walk → ℕ → Shape → List ℕ
opening_at W i s = opening_as (dag_in W) (widths_in W) (problem_in W).bits i (node_within W i) s

abbrev pub opening_of : Walk → ℕ → List ℕ
opening_of W i = opening_at W i (shape (node_within W i))

-- the formula of node i where level l or a tighter one may stand as it is
abbrev pub placed_at : Walk → ℕ → ℕ → List ℕ
placed_at W l i = placed_tree l (tree_of (dag_in W) (widths_in W) (problem_in W).bits i)
