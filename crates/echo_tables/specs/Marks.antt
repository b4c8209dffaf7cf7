-- The mark of each node, and what an operand is refused with by the marks.
use Rattle.std.specs.Prelude.{ℕ, ◌≡◌, Bool, List, get_or}
use Rattle.echo_spec.specs.Refusals.{unless, ◌or_else◌}
use Rattle.echo_spec.specs.Shapes.{is_bool}
use Rattle.echo_spec.specs.Input.{Dag, shape, no_node}
use Rattle.echo_spec.specs.Walk.{sort_ok}
use Rattle.refusals.specs.Numbers.{refused}
use Rattle.blast_kernel.specs.Kinds.{shape_in}
use Rattle.echo_tables.specs.declared.Mark.{Mark}
use Rattle.echo_tables.specs.declared.TheConstants.{BLANK}
use Rattle.echo_tables.specs.Refused.{refused_at}

abbrev pub mark_at : List Mark → ℕ → Mark
mark_at t x = get_or t x BLANK

-- node x where a Bool is wanted, or a bit-vector: 3 where it has the other sort, else what its mark tells
unfoldable pub use_of : List Mark → ℕ → Bool → ℕ
use_of t x w = unless (sort_ok w (is_bool (shape_in (mark_at t x).shape))) 3 or_else refused (mark_at t x).told

-- m is the mark of node i
pub record Marks (d : Dag) (ws : List ℕ) (i : ℕ) (m : Mark) : Type 0 where
  pub shaped : shape_in m.shape ≡ shape (get_or d.nodes i no_node)
  pub refused : refused m.told ≡ refused_at d ws i
