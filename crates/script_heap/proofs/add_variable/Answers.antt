-- `add_variable` meets its contract: its record is added, with no bits and no side entries.
use Rattle.std.proofs.Common.{refl, [], arith}
use Rattle.readback.specs.Rebuild.{a_variable, side_in, record_of}
use Rattle.heap_laws.specs.Within.{within-parts}
use Rattle.heap_laws.specs.Adding.{plain-variable}
use Rattle.script_heap.specs.Laws.{told-record, same_heap}
use Rattle.script_heap.proofs.add_variable.Goals as goal

pub returns-clause-told : goal.returns-clause-told
unfolding side_in record_of
returns-clause-told c =
    λ bits s h. told-record c.args.heap.now h (a_variable c.args.width) (plain-variable c.args.width) [] _ refl (omega (arith, h.side_count, (within-parts s h.inside).side)) _ _ _ c.add_record.result (same_heap _) refl
    c.add_record.ensures.recorded
