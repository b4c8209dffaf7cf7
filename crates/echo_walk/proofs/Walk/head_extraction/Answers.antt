use Rattle.echo_walk.proofs.Heads.{head-of-extraction}
use Rattle.echo_walk.proofs.Walk.head_extraction.Goals as goal

pub returns : goal.returns
returns c = head-of-extraction c.args.self.now c.args.i c.node-n.ensures _ c.open_indexed.ensures
