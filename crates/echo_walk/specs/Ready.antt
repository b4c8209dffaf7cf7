-- What is known of the tables that were filled before the walk.
use Rattle.std.specs.Prelude.{ℕ, ◌≤◌, ◌<◌, ◌≡◌, false, List, T, leb, length, get_or, Option, None}
use Rattle.lists.specs.Tests.{every}
use Rattle.echo_spec.specs.Shapes.{is_leaf}
use Rattle.echo_spec.specs.Input.{shape, no_node}
use Rattle.echo_spec.specs.Widths.{ext_wf_of}
use Rattle.echo_spec.specs.Tables.{find_node}
use Rattle.echo_spec.specs.ColumnLaws.{Aligned}
use Rattle.lent.specs.declared.Problem.{Problem as Lent}
use Rattle.lent.specs.Lent.{problem_at, dag_at}
use Rattle.echo_tables.specs.declared.Mark.{Mark}
use Rattle.echo_tables.specs.Found.{found_of}
use Rattle.echo_tables.specs.Marks.{mark_at, Marks}

-- ws are the widths of the nodes, e the entries of the variables' nodes, t the marks
pub record Ready (p : Lent) (ws : List ℕ) (e : List (Option ℕ)) (t : List Mark) : Type 0 where
  pub widths : ws ≡ ext_wf_of (length (problem_at p).bits) (dag_at p).array-widths (dag_at p).side (dag_at p).nodes
  pub counted : length ws ≡ length (dag_at p).nodes
  pub entries : length (problem_at p).side ≤ 8192
  pub binary : T (every (λ b. leb b 1) (problem_at p).bits)
  pub marked : (i : ℕ) → i < length ws → Marks (dag_at p) ws i (mark_at t i)
  -- leaves have no name
  pub unnamed : (i : ℕ) → T (is_leaf (shape (get_or (dag_at p).nodes i no_node))) → (mark_at t i).named ≡ false
  pub entered : (i : ℕ) → i < length ws → get_or e i None ≡ found_of (find_node (problem_at p).var_node i)
  pub aligned : Aligned (dag_at p)
