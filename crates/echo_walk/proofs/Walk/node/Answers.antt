use mathlib.Core.Path.{sym, ◌∙◌}
use Rattle.echo_walk.proofs.Laws.{record-inside, record-at}
use Rattle.echo_walk.proofs.Walk.node.Goals as goal

pub node_at-requires : goal.node_at-requires
node_at-requires c = record-inside _ _ c.requires

pub returns : goal.returns
returns c = c.node_at.ensures ∙ sym (record-at _ _ c.requires)
