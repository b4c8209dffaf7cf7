-- `short_records::count_records` meets its contract. Assumes nothing.
use native.Mathlib.Omega.{arith}
use Rattle.short_records.proofs.Lengthening.{taken_none, taken_more, goes_on, kind-unknown, record-cut, whole_here, passes, form-size}
use Rattle.short_records.proofs.count_records.Goals as goal

pub loop-at-init : goal.loop-at-init
loop-at-init c = (omega arith, omega arith, taken_none _ _)

pub returns-then-n-ge-MAX_NODES : goal.returns-then-n-ge-MAX_NODES
returns-then-n-ge-MAX_NODES c =
    record { told = goes_on c.loop-at.invariant.2 (omega arith) (omega arith) }

pub returns-then-kind-ge-KINDS : goal.returns-then-kind-ge-KINDS
returns-then-kind-ge-KINDS c =
    record { told = kind-unknown c.loop-at.invariant.2 (omega arith) (omega arith) (omega arith) }

pub returns-then-size-new : goal.returns-then-size-new
returns-then-size-new c =
    record { told = record-cut c.loop-at.invariant.2 (omega arith) (omega arith) _ c.short_size-size.ensures.0 (omega arith) }

pub loop-at-preserved : goal.loop-at-preserved
loop-at-preserved c =
    (omega arith, omega arith, taken_more c.loop-at.invariant.2 (omega arith) (omega arith) _ c.short_size-size.ensures.0 (whole_here c.args.new.now c.loop-at.at _ (omega arith) c.short_size-size.ensures.0 (omega arith) (omega arith)))

pub returns : goal.returns
returns c =
    record { told = (passes c.loop-at.invariant.2 (omega arith), form-size c.loop-at.invariant.2 (omega arith), c.loop-at.invariant.0) }
