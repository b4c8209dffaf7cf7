use Rattle.echo_walk.proofs.Heads.{node-inside, head-of-rotation}
use Rattle.echo_walk.proofs.Walk.head_rotation.Goals as goal

pub node-kind-requires : goal.node-kind-requires
node-kind-requires c = node-inside c.args.self.now c.args.i c.requires

pub returns : goal.returns
returns c = head-of-rotation c.args.self.now c.args.i c.node-kind.ensures _ c.amount.ensures c.open_indexed.ensures
