-- `declare` meets its contract: one text after the other. Assumes nothing.
use mathlib.Core.Path.{refl}
use Rattle.echo_spec.specs.Input.{dag_of}
use Rattle.lent.specs.Lent.{dag_at}
use Rattle.echo_decls.specs.DeclaredLines.{opening-written}
use Rattle.echo_decls.proofs.Declarations.declare.Goals as goal

pub returns : goal.returns
unfolding dag_of
returns c =
    let s = c.args.self.now in
    opening-written (dag_at s.problem.now) s.widths.now c.args.out.now refl refl c.start.ensures c.push_logic-logic.ensures
    c.variables-variables_declared.ensures c.arrays-arrays_declared.ensures c.functions.ensures
