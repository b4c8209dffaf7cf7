use Rattle.echo_walk.proofs.Heads.{node-inside, amount-constant, rotation-width, amount-is}
use Rattle.echo_walk.proofs.Walk.amount.Goals as goal

pub node-by-requires : goal.node-by-requires
node-by-requires c = node-inside c.args.self.now c.args.i c.requires

pub constant-requires : goal.constant-requires
constant-requires c = amount-constant c.args.self.now c.args.i c.requires c.node-by.ensures

pub rot_amount-requires : goal.rot_amount-requires
rot_amount-requires c = rotation-width c.args.self.now c.args.i c.requires c.get.ensures

pub returns : goal.returns
returns c = amount-is c.args.self.now c.args.i c.node-by.ensures c.constant.ensures.part c.get.ensures c.rot_amount.ensures
