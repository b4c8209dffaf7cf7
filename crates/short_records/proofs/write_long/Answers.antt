-- `short_records::write_long` meets its contract. Assumes nothing.
use native.Mathlib.Omega.{arith}
use borrow.Author.Rules.{rules}
use Rattle.short_records.proofs.Lengthening.{filling-none, filling-more, filling-all, inside, fits, small, record-fits, zeros-fit}
use Rattle.short_records.proofs.write_long.Goals as goal

pub loop-from-init : goal.loop-from-init
loop-from-init c = filling-none _ _ _

pub slice_bounds-copy-end : goal.slice_bounds-copy-end
slice_bounds-copy-end c =
    record-fits c.loop-from.invariant (omega arith) c.requires.0 c.requires.1 _ c.short_size-size.ensures.0

pub overflow_add-at : goal.overflow_add-at
overflow_add-at c =
    omega (arith, fits c.loop-from.invariant (omega arith) c.requires.0 c.requires.1 _ c.short_size-size.ensures.0, small c.loop-from.invariant (omega arith) c.requires.0 c.requires.1 _ c.short_size-size.ensures.0)

pub slice_bounds-copy-end-in-loop-from : goal.slice_bounds-copy-end-in-loop-from
slice_bounds-copy-end-in-loop-from c =
    omega (arith, inside c.loop-from.invariant (omega arith) c.requires.0 c.requires.1 _ c.short_size-size.ensures.0)

pub slice_bounds-fill-end : goal.slice_bounds-fill-end
slice_bounds-fill-end c =
    zeros-fit c.loop-from.invariant (omega arith) c.requires.0 c.requires.1 _ c.short_size-size.ensures.0 c.copy.ensures

pub overflow_add-from : goal.overflow_add-from
overflow_add-from c =
    omega (arith, inside c.loop-from.invariant (omega arith) c.requires.0 c.requires.1 _ c.short_size-size.ensures.0)

pub overflow_add-at-in-loop-from : goal.overflow_add-at-in-loop-from
overflow_add-at-in-loop-from c =
    omega (arith, fits c.loop-from.invariant (omega arith) c.requires.0 c.requires.1 _ c.short_size-size.ensures.0)

pub loop-from-smaller : goal.loop-from-smaller
loop-from-smaller c =
    omega (arith, inside c.loop-from.invariant (omega arith) c.requires.0 c.requires.1 _ c.short_size-size.ensures.0, c.short_size-size.ensures.0)

pub loop-from-preserved : goal.loop-from-preserved
loop-from-preserved c =
    filling-more c.loop-from.invariant (omega arith) c.requires.0 c.requires.1 _ c.short_size-size.ensures.0 c.copy.ensures (c.fill.ensures.after (λ y e. search rules))

pub returns : goal.returns
returns c =
    filling-all c.loop-from.invariant (omega arith)
