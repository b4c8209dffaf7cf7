-- `array_tail` meets its contract, a step at a time.
use Rattle.lists.specs.Bytes.{bytes}
use Rattle.script_decls.specs.Tails.{array-1, array-2, array-3, array-4, array-5, array_whole}
use Rattle.script_decls.specs.Told.{array-widths}
use Rattle.script_decls.proofs.array_tail.Goals as goal

pub returns-in_err-a : goal.returns-in_err-a
unfolding bytes
returns-in_err-a c = rw c.from_residual.ensures (array-1 c.args.s.now c.args.at c.in_err-a.ensures)

pub returns-in_err-index : goal.returns-in_err-index
unfolding bytes
returns-in_err-index c = rw c.from_residual-in_err-index.ensures (array-2 c.args.s.now c.args.at c.in_ok-a.a c.in_ok-a.ensures.1 c.in_err-index.ensures)

pub returns-in_err-b : goal.returns-in_err-b
unfolding bytes
returns-in_err-b c = rw c.from_residual-in_err-b.ensures (array-3 c.args.s.now c.args.at c.in_ok-a.a c.in_ok-a.ensures.1 c.in_ok-index.index.value c.in_ok-index.index.end c.in_ok-index.ensures.1 c.in_err-b.ensures)

pub returns-in_err-value : goal.returns-in_err-value
unfolding bytes
returns-in_err-value c = rw c.from_residual-in_err-value.ensures (array-4 c.args.s.now c.args.at c.in_ok-a.a c.in_ok-a.ensures.1 c.in_ok-index.index.value c.in_ok-index.index.end c.in_ok-index.ensures.1 c.in_ok-b.b c.in_ok-b.ensures.1 c.in_err-value.ensures)

pub returns-in_err-end : goal.returns-in_err-end
unfolding bytes
returns-in_err-end c = rw c.from_residual-in_err-end.ensures (array-5 c.args.s.now c.args.at c.in_ok-a.a c.in_ok-a.ensures.1 c.in_ok-index.index.value c.in_ok-index.index.end c.in_ok-index.ensures.1 c.in_ok-b.b c.in_ok-b.ensures.1 c.in_ok-value.value.value c.in_ok-value.value.end c.in_ok-value.ensures.1 c.in_err-end.ensures)

pub returns : goal.returns
unfolding bytes
returns c = (
  array_whole c.args.s.now c.args.at c.in_ok-a.a c.in_ok-a.ensures.1 c.in_ok-index.index.value c.in_ok-index.index.end c.in_ok-index.ensures.1 c.in_ok-b.b c.in_ok-b.ensures.1 c.in_ok-value.value.value c.in_ok-value.value.end c.in_ok-value.ensures.1 c.in_ok-end.end c.requires c.in_ok-a.ensures.0 c.in_ok-index.ensures.0 c.in_ok-b.ensures.0 c.in_ok-value.ensures.0 c.in_ok-end.ensures.0 c.in_ok-end.ensures.1,
  array-widths c.args.s.now c.args.at c.in_ok-a.a c.in_ok-index.index.value c.in_ok-index.index.end c.in_ok-b.b c.in_ok-value.value.value c.in_ok-value.value.end c.in_ok-a.ensures.1 c.in_ok-index.ensures.1 c.in_ok-b.ensures.1 c.in_ok-value.ensures.1,
)
