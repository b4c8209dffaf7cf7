-- `read_header` meets its contract, a step at a time.
use Rattle.lists.specs.Bytes.{bytes}
use Rattle.script_header.specs.Steps.{ready-start, header-1, header-2, header-3, header-4, header-5, header-6, header-7, header-whole, header-noted}
use Rattle.script_header.proofs.read_header.Goals as goal

pub returns-in_err-p-clause-header : goal.returns-in_err-p-clause-header
unfolding bytes
returns-in_err-p-clause-header c = rw c.from_residual.ensures (header-1 c.args.s.now c.args.at c.in_err-p.ensures)

pub returns-in_err-first-clause-header : goal.returns-in_err-first-clause-header
unfolding bytes
returns-in_err-first-clause-header c = rw c.from_residual-in_err-first.ensures (header-2 c.args.s.now c.args.at c.in_ok-p.p c.in_ok-p.ensures.1 c.stretch_end-z.result c.stretch_end-z.ensures c.in_err-first.ensures)

pub read_lines-requires : goal.read_lines-requires
read_lines-requires c = ready-start c.args.s.now _ c.in_ok-first.first c.in_ok-first.ensures.0 c.requires.1

pub returns-in_err-variables-clause-header : goal.returns-in_err-variables-clause-header
unfolding bytes
returns-in_err-variables-clause-header c = rw c.from_residual-in_err-variables.ensures (header-3 c.args.s.now c.args.at c.in_ok-p.p c.in_ok-p.ensures.1 c.stretch_end-z.result c.stretch_end-z.ensures c.in_ok-first.first c.in_ok-first.ensures.1 c.args.t.now c.in_err-variables.ensures.stage)

pub returns-in_err-arrays-clause-header : goal.returns-in_err-arrays-clause-header
unfolding bytes
returns-in_err-arrays-clause-header c = rw c.from_residual-in_err-arrays.ensures (header-4 c.args.s.now c.args.at c.in_ok-p.p c.in_ok-p.ensures.1 c.stretch_end-z.result c.stretch_end-z.ensures c.in_ok-first.first c.in_ok-first.ensures.1 _ c.in_ok-variables.variables.names c.in_ok-variables.variables.end c.in_ok-variables.ensures.stage c.args.t.now c.in_err-arrays.ensures.stage)

pub returns-in_err-functions-clause-header : goal.returns-in_err-functions-clause-header
unfolding bytes
returns-in_err-functions-clause-header c = rw c.from_residual-in_err-functions.ensures (header-5 c.args.s.now c.args.at c.in_ok-p.p c.in_ok-p.ensures.1 c.stretch_end-z.result c.stretch_end-z.ensures c.in_ok-first.first c.in_ok-first.ensures.1 _ c.in_ok-variables.variables.names c.in_ok-variables.variables.end c.in_ok-variables.ensures.stage _ c.in_ok-arrays.arrays.names c.in_ok-arrays.arrays.end c.in_ok-arrays.ensures.stage c.args.t.now c.in_err-functions.ensures.stage)

pub returns-then-not-logic_is-clause-header : goal.returns-then-not-logic_is-clause-header
unfolding bytes
returns-then-not-logic_is-clause-header c = header-6 c.args.s.now c.args.at c.in_ok-p.p c.in_ok-p.ensures.1 c.stretch_end-z.result c.stretch_end-z.ensures c.in_ok-first.first c.in_ok-first.ensures.1 _ c.in_ok-variables.variables.names c.in_ok-variables.variables.end c.in_ok-variables.ensures.stage _ c.in_ok-arrays.arrays.names c.in_ok-arrays.arrays.end c.in_ok-arrays.ensures.stage _ c.in_ok-functions.functions.names c.in_ok-functions.functions.end c.in_ok-functions.ensures.stage c.logic_is.ensures c.if-not-logic_is.true

pub returns-then-not-has_begun-clause-header : goal.returns-then-not-has_begun-clause-header
unfolding bytes
returns-then-not-has_begun-clause-header c = header-7 c.args.s.now c.args.at c.in_ok-p.p c.in_ok-p.ensures.1 c.stretch_end-z.result c.stretch_end-z.ensures c.in_ok-first.first c.in_ok-first.ensures.1 _ c.in_ok-variables.variables.names c.in_ok-variables.variables.end c.in_ok-variables.ensures.stage _ c.in_ok-arrays.arrays.names c.in_ok-arrays.arrays.end c.in_ok-arrays.ensures.stage _ c.in_ok-functions.functions.names c.in_ok-functions.functions.end c.in_ok-functions.ensures.stage c.has_begun.ensures c.if-not-has_begun.true

pub returns-clause-header : goal.returns-clause-header
unfolding bytes
returns-clause-header c = header-whole c.args.s.now c.args.at c.in_ok-p.p c.in_ok-p.ensures.1 c.stretch_end-z.result c.stretch_end-z.ensures c.in_ok-first.first c.in_ok-first.ensures.1 _ c.in_ok-variables.variables.names c.in_ok-variables.variables.end c.in_ok-variables.ensures.stage _ c.in_ok-arrays.arrays.names c.in_ok-arrays.arrays.end c.in_ok-arrays.ensures.stage _ c.in_ok-functions.functions.names c.in_ok-functions.functions.end c.in_ok-functions.ensures.stage c.in_ok-first.ensures.0 c.logic_is.ensures c.if-not-logic_is.false c.has_begun.ensures c.if-not-has_begun.false

pub returns-in_err-p-clause-noted : goal.returns-in_err-p-clause-noted
returns-in_err-p-clause-noted c = rw c.from_residual.ensures tt

pub returns-in_err-first-clause-noted : goal.returns-in_err-first-clause-noted
returns-in_err-first-clause-noted c = rw c.from_residual-in_err-first.ensures tt

pub returns-in_err-variables-clause-noted : goal.returns-in_err-variables-clause-noted
returns-in_err-variables-clause-noted c = rw c.from_residual-in_err-variables.ensures tt

pub returns-in_err-arrays-clause-noted : goal.returns-in_err-arrays-clause-noted
returns-in_err-arrays-clause-noted c = rw c.from_residual-in_err-arrays.ensures tt

pub returns-in_err-functions-clause-noted : goal.returns-in_err-functions-clause-noted
returns-in_err-functions-clause-noted c = rw c.from_residual-in_err-functions.ensures tt

pub returns-clause-noted : goal.returns-clause-noted
returns-clause-noted c = header-noted (record { first = c.in_ok-first.first; variables = c.in_ok-variables.variables.names; arrays = c.in_ok-arrays.arrays.names; names = c.in_ok-functions.functions.names; end = c.in_ok-functions.functions.end }) c.in_ok-variables.ensures.noted c.in_ok-arrays.ensures.noted c.in_ok-functions.ensures.noted
