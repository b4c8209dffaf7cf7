-- `add_select` meets its contract: too many side entries, or its pairs are side entries and its record is added.
use Rattle.std.proofs.Common.{◌*◌}
use Rattle.script_heap.specs.Sides.{size_low, select-over, told-select}
use Rattle.script_heap.proofs.add_select.Goals as goal

pub returns-then-stores-side-clause-told : goal.returns-then-stores-side-clause-told
returns-then-stores-side-clause-told c = λ bits s script refs xs h w e l. select-over c.args.heap.now h script w c.args.base xs (size_low c.args.base (2 * c.args.stores) xs w e l) e c.args.stores l c.args.array c.if-stores-side.true

pub returns-clause-told : goal.returns-clause-told
returns-clause-told c = λ bits s script refs xs h w e l. told-select c.args.heap.now h script w c.args.base xs (size_low c.args.base (2 * c.args.stores) xs w e l) e c.args.stores l c.args.array c.operand-index.result _ _ c.add_record.result c.if-stores-side.false c.operand-index.ensures.half c.copy_pairs.ensures c.add_record.ensures.recorded
