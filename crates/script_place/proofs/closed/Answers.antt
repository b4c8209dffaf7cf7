-- `closed` meets its contract: the term has its node, by its head, if there was room for it.
use Rattle.std.proofs.Common.{ap, Ok}
use Rattle.std.proofs.lemmas.Result.{err_from_is_err_and}
use Rattle.script_place.specs.Closing.{first-numeral, second-numeral, ending, closing-as, closed-placed, closed-over, numerals, operator-put, operator-leaf, operator_amounts, operator-ends, operator-rule, operator-width}
use Rattle.script_place.specs.Closing.{call-leaf, call-width, call-put, select-leaf, select-width, select-many, select-top, select-put}
use Rattle.script_place.proofs.closed.Goals as goal

pub result_width-width-requires : goal.result_width-width-requires
result_width-width-requires c = operator-rule (closing-as c.requires.closing c.in-Operator.is) c.numeral_or_zero-a.result c.numeral_or_zero-b.result c.unwrap_or-w.result (first-numeral c.in-Operator.numerals c.in-Operator.first c.in-Operator.second c.numeral_or_zero-a.result c.numeral_or_zero-a.ensures.0 c.numeral_or_zero-a.ensures.1) (second-numeral c.in-Operator.numerals c.in-Operator.first c.in-Operator.second c.numeral_or_zero-b.result c.numeral_or_zero-b.ensures.0 c.numeral_or_zero-b.ensures.1) c.unwrap_or-w.ensures c.unwrap_or.result c.unwrap_or.ensures

pub end_select-requires-clause-stores : goal.end_select-requires-clause-stores
end_select-requires-clause-stores c = select-top (closing-as c.requires.closing c.in-Select.is)

pub returns-in_err-node-in-Operator : goal.returns-in_err-node-in-Operator
returns-in_err-node-in-Operator c = λ at D tree sort rest first refs cl levels side.
    let k = closing-as cl c.in-Operator.is in
    let p = err_from_is_err_and c.from_residual.result c.from_residual.ensures.1 in
    rw (p.1, p.2) (closed-over k c.end_operator.new.heap _ (operator-put k) _ (c.in_err-node-in-Operator.ensures k.now refs k.rs (numerals k) (operator_amounts k) (ending k) (operator-ends k c.numeral_or_zero-a.result c.numeral_or_zero-b.result c.unwrap_or-w.result (first-numeral c.in-Operator.numerals c.in-Operator.first c.in-Operator.second c.numeral_or_zero-a.result c.numeral_or_zero-a.ensures.0 c.numeral_or_zero-a.ensures.1) (second-numeral c.in-Operator.numerals c.in-Operator.first c.in-Operator.second c.numeral_or_zero-b.result c.numeral_or_zero-b.ensures.0 c.numeral_or_zero-b.ensures.1) c.unwrap_or-w.ensures)) levels side)

pub returns-in_ok-node-in-Operator : goal.returns-in_ok-node-in-Operator
returns-in_ok-node-in-Operator c = λ at D tree sort rest first refs cl levels side.
    let k = closing-as cl c.in-Operator.is in
    closed-placed k c.end_operator.new.heap _ (operator-put k) (operator-leaf k) (Ok c.in_ok-node-in-Operator.node) c.result_width-width.result (Ok c.placed_at.result)
    (operator-width k c.numeral_or_zero-a.result c.numeral_or_zero-b.result c.unwrap_or-w.result (first-numeral c.in-Operator.numerals c.in-Operator.first c.in-Operator.second c.numeral_or_zero-a.result c.numeral_or_zero-a.ensures.0 c.numeral_or_zero-a.ensures.1) (second-numeral c.in-Operator.numerals c.in-Operator.first c.in-Operator.second c.numeral_or_zero-b.result c.numeral_or_zero-b.ensures.0 c.numeral_or_zero-b.ensures.1) c.unwrap_or-w.ensures c.unwrap_or.result c.unwrap_or.ensures c.result_width-width.result c.result_width-width.ensures)
    (c.in_ok-node-in-Operator.ensures k.now refs k.rs (numerals k) (operator_amounts k) (ending k) (operator-ends k c.numeral_or_zero-a.result c.numeral_or_zero-b.result c.unwrap_or-w.result (first-numeral c.in-Operator.numerals c.in-Operator.first c.in-Operator.second c.numeral_or_zero-a.result c.numeral_or_zero-a.ensures.0 c.numeral_or_zero-a.ensures.1) (second-numeral c.in-Operator.numerals c.in-Operator.first c.in-Operator.second c.numeral_or_zero-b.result c.numeral_or_zero-b.ensures.0 c.numeral_or_zero-b.ensures.1) c.unwrap_or-w.ensures)) (ap Ok c.placed_at.ensures) levels side

pub returns-in_err-node-in-Call : goal.returns-in_err-node-in-Call
returns-in_err-node-in-Call c = λ at D tree sort rest first refs cl levels side.
    let k = closing-as cl c.in-Call.is in
    let p = err_from_is_err_and c.from_residual-in_err-node-in-Call.result c.from_residual-in_err-node-in-Call.ensures.1 in
    rw (p.1, p.2) (closed-over k c.end_call.new.heap _ (call-put k) _ (c.in_err-node-in-Call.ensures k.now refs k.rs (ending k)) levels side)

pub returns-in_ok-node-in-Call : goal.returns-in_ok-node-in-Call
returns-in_ok-node-in-Call c = λ at D tree sort rest first refs cl levels side.
    let k = closing-as cl c.in-Call.is in
    closed-placed k c.end_call.new.heap _ (call-put k) (call-leaf k) (Ok c.in_ok-node-in-Call.node) c.in-Call.width (Ok c.placed_at-in-Call.result)
    (call-width k) (c.in_ok-node-in-Call.ensures k.now refs k.rs (ending k)) (ap Ok c.placed_at-in-Call.ensures) levels side

pub returns-in_err-node-in-Select : goal.returns-in_err-node-in-Select
returns-in_err-node-in-Select c = λ at D tree sort rest first refs cl levels side.
    let k = closing-as cl c.in-Select.is in
    let p = err_from_is_err_and c.from_residual-in_err-node-in-Select.result c.from_residual-in_err-node-in-Select.ensures.1 in
    rw (p.1, p.2) (closed-over k c.end_select.new.heap _ (select-put k) _ (c.in_err-node-in-Select.ensures k.now refs k.rs (ending k) (select-many k)) levels side)

pub returns-in_ok-node-in-Select : goal.returns-in_ok-node-in-Select
returns-in_ok-node-in-Select c = λ at D tree sort rest first refs cl levels side.
    let k = closing-as cl c.in-Select.is in
    closed-placed k c.end_select.new.heap _ (select-put k) (select-leaf k) (Ok c.in_ok-node-in-Select.node) c.in-Select.value (Ok c.placed_at-in-Select.result)
    (select-width k) (c.in_ok-node-in-Select.ensures k.now refs k.rs (ending k) (select-many k)) (ap Ok c.placed_at-in-Select.ensures) levels side
