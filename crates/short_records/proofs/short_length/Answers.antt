-- `short_records::short_length` meets its contract. Assumes nothing.
use Prim.Native.Nat.{◌/◌}
use native.Mathlib.Omega.{arith}
use lib.ListN.{length}
use Rattle.short_records.specs.RoundTrips.{form-bound}
use Rattle.short_records.proofs.Shortening.{begun-none, begun_more, within-form, counted-all}
use Rattle.short_records.proofs.short_length.Goals as goal

pub loop-i-init : goal.loop-i-init
loop-i-init c = begun-none _ _

pub overflow_add-total : goal.overflow_add-total
overflow_add-total c =
    omega (arith, within-form c.loop-i.invariant (omega arith) (omega arith) _ c.short_size-total.ensures.0, form-bound (length c.args.old.now / 17) c.args.old.now)

pub loop-i-preserved : goal.loop-i-preserved
loop-i-preserved c =
    begun_more c.loop-i.invariant (omega arith) (omega arith) _ c.short_size-total.ensures.0

pub returns : goal.returns
returns c =
    counted-all c.loop-i.invariant (omega arith)
