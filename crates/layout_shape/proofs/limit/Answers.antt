-- `layout_shape::limit` meets its contract: the table's limits are the definition's. Assumes nothing.
use Rattle.std.proofs.Common.{◌≡◌, map, get_or, arith}
use Rattle.std.proofs.Math.ListN.{get_or-map}
use Rattle.layout_shape.specs.Layout.{inputs, input_at, input}
use Rattle.layout_shape.proofs.Limits.{limit-in, limit-bound}
use Rattle.layout_shape.proofs.limit.Goals as goal

pub returns : goal.returns
unfolding inputs input_at
returns c =
    let e : get_or (map (λ i. i.limit) inputs) c.args.k 0 ≡ (input_at c.args.k).limit = get_or-map (λ i. i.limit) inputs c.args.k (input "" 0) in
    rw limit-in (e, omega (arith, e, limit-bound c.args.k c.requires))
