-- `let_filled` meets its contract. Assumes nothing.
use Rattle.std.proofs.Common.{sym, ◌∙◌}
use Rattle.echo_script.proofs.Checking.{wrote-done}
use Rattle.echo_script.proofs.Printing.{opened_inside}
use Rattle.let_script.specs.Printing.{sharing, walkable, none-refused, roots-free, print-in}
use Rattle.let_script.proofs.let_filled.Goals as goal

pub invariant_of-sharing : goal.invariant_of-sharing
invariant_of-sharing c = record { known = sharing c.in_ok-declared.ensures.filled c.args.operators.now.flags }

pub invariant_of-assertions : goal.invariant_of-assertions
invariant_of-assertions c = record { walkable = walkable c.in_ok-declared.ensures.filled }

pub let_roots-asserted-requires-clause-free : goal.let_roots-asserted-requires-clause-free
let_roots-asserted-requires-clause-free c =
    let f = c.in_ok-declared.ensures.filled in
    let o = c.args.operators.now.formed.now in
    roots-free o.problem.now f.formed _ (none-refused f (sym c.in_ok-roots_told.ensures))

pub let_roots-asserted-requires-clause-inside : goal.let_roots-asserted-requires-clause-inside
let_roots-asserted-requires-clause-inside c = opened_inside _ _ c.in_ok-declared.ensures.text

pub returns : goal.returns
returns c =
    let o = c.args.operators.now.formed.now in
    wrote-done (c.in_ok-declared.ensures.passed _ ∙ sym c.in_ok-roots_told.ensures)
    (print-in o.problem.now o.widths.now c.args.out.now c.in_ok-declared.ensures.text c.let_roots-asserted.ensures c.check_sat.ensures)
