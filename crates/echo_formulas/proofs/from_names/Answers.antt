-- `echo_formulas::from_names` meets its contract: the checks from the names on, and the lines of the roots. Assumes nothing.
use mathlib.Core.Path.{ap, ◌∙◌}
use native.Mathlib.Omega.{arith}
use Rattle.echo_spec.specs.Input.{dag_of}
use Rattle.lent.specs.Lent.{problem_at, dag_at}
use Rattle.echo_bytes.specs.Page.{written}
use Rattle.echo_script.proofs.Checking.{wrote-done}
use Rattle.echo_script.proofs.Printing.{ready, all-fine}
use Rattle.echo_formulas.specs.Lines.{lines_are}
use Rattle.echo_formulas.proofs.from_names.Goals as goal

pub invariant_of-walk : goal.invariant_of-walk
invariant_of-walk c = record { ready = ready (c.in_ok-prepare.ensures.prepared (omega arith)).filled }

pub lines-requires : goal.lines-requires
lines-requires c = all-fine _ (c.in_ok-prepare.ensures.prepared (omega arith)).walked

pub returns : goal.returns
unfolding dag_of
returns c =
    let p = problem_at c.args.formed.now.problem.now in
    wrote-done (c.in_ok-prepare.ensures.passed (omega arith))
    (rw c.start.ensures at c.lines.ensures ∙ ap (written _) (lines_are (dag_at c.args.formed.now.problem.now) c.args.formed.now.widths.now p.bits p.roots))
