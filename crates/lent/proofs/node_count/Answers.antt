-- `lent::node_count` meets its contract. Assumes nothing.
use mathlib.Core.Path.{sym}
use Rattle.lent.specs.Records.{nodes-length}
use Rattle.lent.proofs.node_count.Goals as goal

pub returns : goal.returns
returns c = sym (nodes-length c.args.nodes.now)
