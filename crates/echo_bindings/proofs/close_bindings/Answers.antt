-- `close_bindings` meets its contract: the brackets of the first nodes are written. Assumes nothing.
use Rattle.std.proofs.Common.{arith, refl}
use Rattle.echo_bindings.specs.LetLines.{none_yet, one_more, none_more, all-pieces}
use Rattle.echo_bindings.proofs.close_bindings.Goals as goal
use Rattle.echo_bindings.proofs.close_bindings.Goals.{then-b, else-b}

pub loop-b-init : goal.loop-b-init
loop-b-init c = none_yet _ _ _ (omega arith)

pub loop-b-preserved : goal.loop-b-preserved
loop-b-preserved c =
    elim c.if-b.branch [
      | then-b w ↦ rw (w.q-is, w.out-is) (one_more c.loop-b.invariant c.loop-b-test.true (rw w.if-b.true w.byte-q.ensures))
      | else-b w ↦ rw (w.q-is, w.out-is) (none_more c.loop-b.invariant c.loop-b-test.true (rw w.if-b.false refl))
    ]

pub returns : goal.returns
returns c = all-pieces c.loop-b.invariant c.loop-b-test.false
