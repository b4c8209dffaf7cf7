use Rattle.echo_walk.proofs.Heads.{node-inside, array-inside, head-of-select}
use Rattle.echo_walk.proofs.Walk.head_select.Goals as goal

pub node-n-requires : goal.node-n-requires
node-n-requires c = node-inside c.args.self.now c.args.i c.requires

pub array_name-requires : goal.array_name-requires
array_name-requires c = array-inside c.args.self.now c.args.i c.requires c.node-n.ensures

pub returns : goal.returns
returns c = head-of-select c.args.self.now c.args.i c.node-n.ensures c.array_name.ensures _ c.open_select.ensures
