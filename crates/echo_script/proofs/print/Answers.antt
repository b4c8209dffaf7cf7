-- `print` meets its contract. Assumes nothing.
use Rattle.echo_script.proofs.Printing.{ready, walk_over, all-fine, opened_inside, print-in}
use Rattle.echo_script.proofs.print.Goals as goal

pub invariant_of-walk : goal.invariant_of-walk
invariant_of-walk c = record { ready = ready c.requires.filled }

pub echo_roots-asserted-requires : goal.echo_roots-asserted-requires
echo_roots-asserted-requires c = (all-fine _ c.requires.walked, opened_inside _ _ c.declare-declared.ensures)

pub returns : goal.returns
returns c =
    print-in (walk_over c.args.formed.now.problem c.args.formed.now.widths c.args.tables c.requires.filled) c.requires.walked (record { plan = λ i. c.requires.filled.marked.unnamed i })
    c.args.out.now c.declare-declared.ensures c.echo_roots-asserted.ensures c.check_sat.ensures
