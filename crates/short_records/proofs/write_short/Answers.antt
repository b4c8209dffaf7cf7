-- `short_records::write_short` meets its contract. Assumes nothing.
use Prim.Native.Nat.{◌/◌}
use native.Mathlib.Omega.{arith}
use lib.ListN.{length}
use Rattle.short_records.specs.RoundTrips.{form-bound}
use Rattle.short_records.proofs.Shortening.{writing-none, writing_more, writing-all, within-form, copy-fits}
use Rattle.short_records.proofs.write_short.Goals as goal

pub loop-i-init : goal.loop-i-init
loop-i-init c = writing-none _ _ _

pub slice_bounds-copy-end : goal.slice_bounds-copy-end
slice_bounds-copy-end c =
    copy-fits c.loop-i.invariant (omega arith) (omega arith) c.requires _ c.short_size-size.ensures.0

pub overflow_add-at : goal.overflow_add-at
overflow_add-at c =
    omega (arith, within-form c.loop-i.invariant.begun (omega arith) (omega arith) _ c.short_size-size.ensures.0, form-bound (length c.args.old.now / 17) c.args.old.now)

pub loop-i-preserved : goal.loop-i-preserved
loop-i-preserved c =
    writing_more c.loop-i.invariant (omega arith) (omega arith) c.requires _ c.short_size-size.ensures.0 c.copy.ensures

pub returns : goal.returns
returns c =
    writing-all c.loop-i.invariant (omega arith)
