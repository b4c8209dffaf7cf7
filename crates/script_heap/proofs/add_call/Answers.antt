-- `add_call` meets its contract: too many side entries, or its operands are side entries and its record is added.
use Rattle.script_heap.specs.Sides.{call-over, told-call}
use Rattle.script_heap.proofs.add_call.Goals as goal

pub returns-then-count-side-clause-told : goal.returns-then-count-side-clause-told
returns-then-count-side-clause-told c = λ bits s script refs xs h w e. call-over c.args.heap.now h script w c.args.base xs c.requires.low e c.args.g c.args.width c.if-count-side.true

pub returns-clause-told : goal.returns-clause-told
returns-clause-told c = λ bits s script refs xs h w e. told-call c.args.heap.now h script w c.args.base xs c.requires.low e c.args.g c.args.width _ _ c.add_record.result c.if-count-side.false c.copy_operands.ensures c.add_record.ensures.recorded
