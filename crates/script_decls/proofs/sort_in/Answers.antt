-- `sort_in` meets its contract, a step at a time.
use Rattle.std.proofs.Common.{[], drop, arith}
use Rattle.lists.specs.Bytes.{bytes}
use Rattle.script_decls.specs.Sorts.{sort-no-head, sort-no-number, sort-zero, sort-over, sort-open, sort-whole}
use Rattle.script_decls.proofs.sort_in.Goals as goal
use Rattle.script_decls.proofs.sort_in.Goals.{then-width-eq0-via-then-width-eq0, then-width-eq0-via-else-width-eq0+then-width-limit}

pub returns-in_err-a : goal.returns-in_err-a
unfolding bytes
returns-in_err-a c = rw c.from_residual.ensures (sort-no-head c.args.limit (drop c.args.at c.args.s.now) c.in_err-a.ensures)

pub returns-in_err-width : goal.returns-in_err-width
unfolding bytes
returns-in_err-width c = rw c.from_residual-in_err-width.ensures (sort-no-number c.args.limit (drop c.args.at c.args.s.now) [] (drop c.in_ok-a.a c.args.s.now) (omega arith) c.in_ok-a.ensures.1 c.in_err-width.ensures)

pub returns-then-width-eq0 : goal.returns-then-width-eq0
unfolding bytes
returns-then-width-eq0 c =
    elim c.then-width-eq0.branch [
      | then-width-eq0-via-then-width-eq0 w ↦ sort-zero c.args.limit (drop c.args.at c.args.s.now) [] (drop c.in_ok-a.a c.args.s.now) c.in_ok-width.width.value (drop c.in_ok-width.width.end c.args.s.now) c.in_ok-a.ensures.1 c.in_ok-width.ensures.1 w.if-width-eq0.true
      | then-width-eq0-via-else-width-eq0+then-width-limit w ↦ sort-over c.args.limit (drop c.args.at c.args.s.now) [] (drop c.in_ok-a.a c.args.s.now) c.in_ok-width.width.value (drop c.in_ok-width.width.end c.args.s.now) c.in_ok-a.ensures.1 c.in_ok-width.ensures.1 w.if-width-limit.true
    ]

pub returns-in_err-end : goal.returns-in_err-end
unfolding bytes
returns-in_err-end c = rw c.from_residual-in_err-end.ensures (sort-open c.args.limit (drop c.args.at c.args.s.now) [] (drop c.in_ok-a.a c.args.s.now) c.in_ok-width.width.value (drop c.in_ok-width.width.end c.args.s.now) c.in_ok-a.ensures.1 c.in_ok-width.ensures.1 c.in_err-end.ensures)

pub returns : goal.returns
unfolding bytes
returns c = (c.in_ok-end.ensures.0, sort-whole c.args.limit (drop c.args.at c.args.s.now) [] (drop c.in_ok-a.a c.args.s.now) c.in_ok-width.width.value (drop c.in_ok-width.width.end c.args.s.now) c.in_ok-a.ensures.1 c.in_ok-width.ensures.1 [] (drop c.in_ok-end.end c.args.s.now) c.if-width-eq0.false c.if-width-limit.false c.in_ok-end.ensures.1)
