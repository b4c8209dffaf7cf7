use Rattle.echo_walk.proofs.Heads.{node-inside, function-inside, head-of-call}
use Rattle.echo_walk.proofs.Walk.head_call.Goals as goal

pub node-n-requires : goal.node-n-requires
node-n-requires c = node-inside c.args.self.now c.args.i c.requires

pub function_name-requires : goal.function_name-requires
function_name-requires c = function-inside c.args.self.now c.args.i c.requires c.node-n.ensures

pub returns : goal.returns
returns c = head-of-call c.args.self.now c.args.i c.node-n.ensures c.function_name.ensures _ c.open_call.ensures
