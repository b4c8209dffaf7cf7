-- `plain_filled` meets its contract. Assumes nothing.
use Rattle.std.proofs.Common.{sym, ◌∙◌}
use Rattle.echo_script.proofs.Checking.{wrote-done}
use Rattle.echo_script.proofs.Printing.{ready, walk_over, all-fine, opened_inside, print-in}
use Rattle.let_script.specs.Printing.{refusable}
use Rattle.let_script.proofs.plain_filled.Goals as goal

pub roots_told-requires : goal.roots_told-requires
roots_told-requires c = refusable c.in_ok-declared.ensures.filled

pub invariant_of-walk : goal.invariant_of-walk
invariant_of-walk c = record { ready = ready c.in_ok-declared.ensures.filled }

pub echo_roots-asserted-requires : goal.echo_roots-asserted-requires
echo_roots-asserted-requires c = (all-fine _ (sym c.in_ok-roots_told.ensures), opened_inside _ _ c.in_ok-declared.ensures.text)

pub returns : goal.returns
returns c =
    let o = c.in_ok-declared.ensures in
    let walked = sym c.in_ok-roots_told.ensures in
    wrote-done (o.passed _ ∙ walked)
    (print-in (walk_over c.args.formed.now.problem c.args.formed.now.widths (record { ref_ptr = c.args.formed.now.problem.ref_ptr; now = c.let_declared.new.tables }) o.filled) walked (record { plan = λ i. o.filled.marked.unnamed i })
    c.args.out.now o.text c.echo_roots-asserted.ensures c.check_sat.ensures)
