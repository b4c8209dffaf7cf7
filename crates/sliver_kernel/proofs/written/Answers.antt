-- `sliver_kernel::written` meets its contract. Assumes nothing.
use Rattle.std.proofs.Common.{refl}
use Rattle.sliver_kernel.specs.Pass.{passed_length}
use Rattle.sliver_kernel.proofs.Answering.{no_room, accepted}
use Rattle.sliver_kernel.proofs.written.Goals as goal

pub returns-then-n-out : goal.returns-then-n-out
returns-then-n-out c = no_room c.in_ok-n.ensures c.args.out.now c.if-n-out.true refl

pub returns : goal.returns
returns c =
    accepted c.in_ok-n.ensures c.args.out.now c.if-n-out.false
    (rw (c.copy_from_slice.ensures.after, ← passed_length c.in_ok-n.ensures.passed) refl)
