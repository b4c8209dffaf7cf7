-- `is_at` meets its contract: a comparison of the constant's bits.
use Rattle.std.proofs.Common.{ℕ, List, ◌∙◌, ap, subst, take, drop, arith}
use Rattle.heap_laws.specs.Heap.{constant_at}
use Rattle.heap_laws.specs.Candidates.{node-small, start_small, length-is, bits_are, part_at}
use Rattle.script_heap.specs.Told.{Compared}
use Rattle.script_heap.specs.Constants.{compared-by}
use Rattle.script_heap.proofs.is_at.Goals as goal

pub offset_bounds-heap-k : goal.offset_bounds-heap-k
offset_bounds-heap-k c = omega (arith, node-small c.requires.2 c.args.k c.requires.1 c.requires.3)

pub bounds-heap-k : goal.bounds-heap-k
bounds-heap-k c = node-small c.requires.2 c.args.k c.requires.1 c.requires.3

pub overflow_add-x : goal.overflow_add-x
overflow_add-x c = omega (arith, start_small c.requires.2 c.args.k c.requires.1 c.requires.3, length-is c.requires.2 c.args.k c.requires.1 c.requires.3)

pub slice_bounds-same_bytes-end : goal.slice_bounds-same_bytes-end
slice_bounds-same_bytes-end c = omega (arith, start_small c.requires.2 c.args.k c.requires.1 c.requires.3, length-is c.requires.2 c.args.k c.requires.1 c.requires.3)

pub returns : goal.returns
returns c = λ s ds h e.
    let p : ℕ = (constant_at c.args.heap.now.constants c.args.k).start in
    subst (λ (xs : List ℕ). Compared xs c.args.bits.now c.same_bytes.result)
    (part_at c.args.heap.now.bits p (constant_at c.args.heap.now.constants c.args.k).width ∙ ap (λ (n : ℕ). take n (drop p c.args.heap.now.bits)) (length-is h c.args.k ds e) ∙ bits_are h c.args.k ds e)
    (compared-by _ c.args.bits.now c.same_bytes.result c.same_bytes.ensures)
