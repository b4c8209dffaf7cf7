-- `array` meets its contract. Assumes nothing.
use mathlib.Core.Path.{ap, ◌∙◌}
use Rattle.echo_spec.specs.Input.{dag_of}
use Rattle.echo_bytes.specs.Page.{written}
use Rattle.lent.specs.Lent.{dag_at}
use Rattle.echo_decls.specs.DeclaredLines.{array-line}
use Rattle.echo_decls.proofs.Declarations.array.Goals as goal

pub returns : goal.returns
unfolding dag_of
returns c =
    let d = dag_at c.args.self.now.problem.now in
    c.decl_array.ensures
    ∙ ap (written _) (array-line d c.args.k c.name_at-name.ensures (rw c.of-widths.ensures at c.index_of-index.ensures)
    (rw c.of-widths.ensures at c.value_of-value.ensures))
