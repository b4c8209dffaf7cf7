-- `echo_hidden::cover` meets its contract: a name or a constant at a time, or one byte outside. Assumes nothing.
use Rattle.std.proofs.Common.{refl, ◌∙◌, arith}
use Rattle.echo_hidden.specs.Covered.{outside, from_start, name-begins, constant-begins, outside-goes-on, came-next, came-further, came-through}
use Rattle.echo_hidden.proofs.cover.Goals as goal

pub loop-i-preserved-then-b-eq124 : goal.loop-i-preserved-then-b-eq124
loop-i-preserved-then-b-eq124 c = came-further (came-next c.loop-i.invariant (omega arith) refl (name-begins _ _ (omega arith) c.if-b-eq124.true)) c.past_name-i.ensures

pub loop-i-preserved-then-b-eq35 : goal.loop-i-preserved-then-b-eq35
loop-i-preserved-then-b-eq35 c = came-further (came-next c.loop-i.invariant (omega arith) refl (constant-begins _ _ (omega arith) c.if-b-eq35.true)) c.cover_digits-i.ensures

pub loop-i-preserved : goal.loop-i-preserved
loop-i-preserved c = came-next c.loop-i.invariant (omega arith) refl (outside-goes-on _ _ (omega arith) c.if-b-eq124.false c.if-b-eq35.false)

pub returns : goal.returns
returns c = came-through c.loop-i.invariant c.loop-i-test.false ∙ from_start outside _
