-- `add_operator` meets its contract: its record is added, with no bits and no side entries.
use Rattle.std.proofs.Common.{refl, sym, [], arith}
use Rattle.readback.specs.Rebuild.{an_operator, side_in, record_of}
use Rattle.heap_laws.specs.Within.{within-parts}
use Rattle.heap_laws.specs.Adding.{plain-operator}
use Rattle.script_heap.specs.Laws.{told-record, top-heap}
use Rattle.script_heap.proofs.add_operator.Goals as goal

pub returns-clause-told : goal.returns-clause-told
unfolding side_in record_of
returns-clause-told c = λ bits s ks xs ms h e. told-record c.args.heap.now h (an_operator c.args.n.kind ks xs ms) (plain-operator c.args.n.kind ks xs ms) [] c.args.base refl (omega (arith, h.side_count, (within-parts s h.inside).side)) _ _ _ c.add_record.result (top-heap c.args.heap.now c.args.base) (sym e) c.add_record.ensures.recorded
