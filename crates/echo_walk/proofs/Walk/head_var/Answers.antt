use Rattle.echo_walk.proofs.Heads.{head-of-var}
use Rattle.echo_walk.proofs.Walk.head_var.Goals as goal

pub returns : goal.returns
returns c = head-of-var c.args.self.now c.args.i c.variable_name.ensures _ c.led.ensures c.byte.ensures
