use Rattle.echo_walk.proofs.Heads.{entry-some, entry-inside, name-of-var}
use Rattle.echo_walk.proofs.Walk.variable_name.Goals as goal

pub unwrap-k-requires : goal.unwrap-k-requires
unwrap-k-requires c = entry-some c.args.self.now c.args.i c.requires _ c.looked_up.ensures

pub name_at-requires : goal.name_at-requires
name_at-requires c = entry-inside c.args.self.now c.args.i c.requires _ c.looked_up.ensures c.unwrap-k.ensures

pub returns : goal.returns
returns c = name-of-var c.args.self.now c.args.i c.requires _ c.looked_up.ensures c.unwrap-k.ensures c.name_at.ensures
