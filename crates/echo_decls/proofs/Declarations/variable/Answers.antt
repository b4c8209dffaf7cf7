-- `variable` meets its contract. Assumes nothing.
use mathlib.Core.Path.{ap, ◌∙◌}
use Rattle.echo_spec.specs.Input.{dag_of}
use Rattle.echo_bytes.specs.Page.{written}
use Rattle.lent.specs.Lent.{dag_at}
use Rattle.echo_decls.specs.DeclaredLines.{variable-line}
use Rattle.echo_decls.proofs.Declarations.variable.Goals as goal

pub returns : goal.returns
unfolding dag_of
returns c =
    let d = dag_at c.args.self.now.problem.now in
    c.decl_var.ensures ∙ ap (written _) (variable-line d c.args.k c.name_at-name.ensures c.get.ensures)
