use Rattle.echo_walk.proofs.Heads.{head-of-extension}
use Rattle.echo_walk.proofs.Walk.head_extension.Goals as goal

pub returns : goal.returns
returns c = head-of-extension c.args.self.now c.args.i c.node-n.ensures _ c.open_indexed.ensures
