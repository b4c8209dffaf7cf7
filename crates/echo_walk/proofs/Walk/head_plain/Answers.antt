use Rattle.echo_walk.proofs.Heads.{head-of-plain}
use Rattle.echo_walk.proofs.Walk.head_plain.Goals as goal

pub returns : goal.returns
returns c = head-of-plain c.node-n.ensures _ c.spaced_plain.ensures
