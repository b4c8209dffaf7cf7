-- `layout_shape::name` meets its contract: the table's names are the definition's. Assumes nothing.
use Rattle.std.proofs.Math.ListN.{get_or-map}
use Rattle.lists.specs.Bytes.{bytes}
use Rattle.layout_shape.specs.Layout.{inputs, input_at, input}
use Rattle.layout_shape.proofs.Limits.{name-in}
use Rattle.layout_shape.proofs.name.Goals as goal

pub returns : goal.returns
unfolding bytes inputs input_at
returns c = rw name-in (get_or-map (λ i. i.name) inputs c.args.k (input "" 0))
