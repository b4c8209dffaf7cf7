-- `function_tail` meets its contract, a step at a time.
use Rattle.lists.specs.Bytes.{bytes}
use Rattle.script_decls.specs.Tails.{function-1, function-2, function-3, function-4, function-5, function-whole}
use Rattle.script_decls.specs.Told.{function-signature}
use Rattle.script_decls.proofs.function_tail.Goals as goal

pub returns-in_err-a : goal.returns-in_err-a
unfolding bytes
returns-in_err-a c = rw c.from_residual.ensures (function-1 c.args.s.now c.args.at c.in_err-a.ensures)

pub returns-in_err-b : goal.returns-in_err-b
unfolding bytes
returns-in_err-b c = rw c.from_residual-in_err-b.ensures (function-2 c.args.s.now c.args.at c.in_ok-a.a c.in_ok-a.ensures.1 c.in_err-b.ensures)

pub returns-in_err-d : goal.returns-in_err-d
unfolding bytes
returns-in_err-d c = rw c.from_residual-in_err-d.ensures (function-3 c.args.s.now c.args.at c.in_ok-a.a c.in_ok-a.ensures.1 c.in_ok-b.b c.in_ok-b.ensures c.in_err-d.ensures)

pub returns-in_err-width : goal.returns-in_err-width
unfolding bytes
returns-in_err-width c = rw c.from_residual-in_err-width.ensures (function-4 c.args.s.now c.args.at c.in_ok-a.a c.in_ok-a.ensures.1 c.in_ok-b.b c.in_ok-b.ensures c.in_ok-d.d c.in_ok-d.ensures.1 c.in_err-width.ensures)

pub returns-in_err-end : goal.returns-in_err-end
unfolding bytes
returns-in_err-end c = rw c.from_residual-in_err-end.ensures (function-5 c.args.s.now c.args.at c.in_ok-a.a c.in_ok-a.ensures.1 c.in_ok-b.b c.in_ok-b.ensures c.in_ok-d.d c.in_ok-d.ensures.1 c.in_ok-width.width.value c.in_ok-width.width.end c.in_ok-width.ensures.1 c.in_err-end.ensures)

pub returns : goal.returns
unfolding bytes
returns c = (
  function-whole c.args.s.now c.args.at c.in_ok-a.a c.in_ok-a.ensures.1 c.in_ok-b.b c.in_ok-b.ensures c.in_ok-d.d c.in_ok-d.ensures.1 c.in_ok-width.width.value c.in_ok-width.width.end c.in_ok-width.ensures.1 c.in_ok-end.end c.requires c.in_ok-a.ensures.0 c.in_ok-d.ensures.0 c.in_ok-width.ensures.0 c.in_ok-end.ensures.0 c.in_ok-end.ensures.1,
  function-signature c.args.s.now c.args.at c.in_ok-a.a c.in_ok-b.b c.in_ok-d.d c.in_ok-width.width.value c.in_ok-width.width.end c.in_ok-a.ensures.0 c.in_ok-a.ensures.1 c.in_ok-b.ensures c.in_ok-d.ensures.1 c.in_ok-width.ensures.1,
)
