-- The plain script, and what it is refused with from the names on.
use Rattle.std.specs.Prelude.{ℕ, List}
use Rattle.echo_spec.specs.Refusals.{unless, ◌or_else◌}
use Rattle.echo_spec.specs.Input.{Problem, Dag, dag_of}
use Rattle.echo_spec.specs.Sharing.{unshared}
use Rattle.echo_spec.specs.Tables.{declarations_of, decl_vars_ok, decl_funcs_ok}
use Rattle.echo_spec.specs.Trees.{trees_over, tree_of}
use Rattle.echo_spec.specs.Walk.{walk_roots, table_checks}
use Rattle.echo_spec.specs.Render.{assertions_text, frame}

-- over the widths ws
abbrev pub plain_script : Problem → List ℕ → List ℕ
plain_script p ws = frame (declarations_of (dag_of p) ws) (assertions_text (trees_over (tree_of (dag_of p) ws p.bits) p.roots))

-- the checks after that of sharing
abbrev pub declared_checks : Dag → List ℕ → ℕ → ℕ
declared_checks d ws walked = unless (decl_vars_ok d) 4 or_else unless (decl_funcs_ok d ws) 7 or_else walked

unfoldable pub tables_refusal : Problem → List ℕ → ℕ
tables_refusal p ws = table_checks (dag_of p) ws (unless (unshared (dag_of p).nodes (dag_of p).side p.roots) 6) (walk_roots (dag_of p) ws p.roots)
