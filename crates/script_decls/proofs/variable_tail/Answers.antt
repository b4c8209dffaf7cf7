-- `variable_tail` meets its contract, a step at a time.
use Rattle.lists.specs.Bytes.{bytes}
use Rattle.script_decls.specs.Tails.{variable-1, variable-2, variable-3, variable-whole}
use Rattle.script_decls.specs.Told.{variable-width}
use Rattle.script_decls.proofs.variable_tail.Goals as goal

pub returns-in_err-a : goal.returns-in_err-a
unfolding bytes
returns-in_err-a c = rw c.from_residual.ensures (variable-1 c.args.s.now c.args.at c.in_err-a.ensures)

pub returns-in_err-width : goal.returns-in_err-width
unfolding bytes
returns-in_err-width c = rw c.from_residual-in_err-width.ensures (variable-2 c.args.s.now c.args.at c.in_ok-a.a c.in_ok-a.ensures.1 c.in_err-width.ensures)

pub returns-in_err-end : goal.returns-in_err-end
unfolding bytes
returns-in_err-end c = rw c.from_residual-in_err-end.ensures (variable-3 c.args.s.now c.args.at c.in_ok-a.a c.in_ok-width.width.value c.in_ok-width.width.end c.in_ok-a.ensures.1 c.in_ok-width.ensures.1 c.in_err-end.ensures)

pub returns : goal.returns
unfolding bytes
returns c = (
  variable-whole c.args.s.now c.args.at c.in_ok-a.a c.in_ok-width.width.value c.in_ok-width.width.end c.in_ok-end.end c.requires c.in_ok-a.ensures.0 c.in_ok-width.ensures.0 c.in_ok-end.ensures.0 c.in_ok-a.ensures.1 c.in_ok-width.ensures.1 c.in_ok-end.ensures.1,
  variable-width c.args.s.now c.args.at c.in_ok-a.a c.in_ok-width.width.value c.in_ok-width.width.end c.in_ok-a.ensures.1 c.in_ok-width.ensures.1,
)
