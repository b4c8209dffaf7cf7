-- `echo_lengths::node_length` meets its contract: a node that has a length is not refused. Assumes nothing.
use Rattle.std.proofs.Common.{rules}
use Rattle.echo_walk.specs.Walks.{Fine}
use Rattle.echo_lengths.proofs.Lengths.{start-need, form-passing, node-long}
use Rattle.echo_lengths.proofs.node_length.Goals as goal

pub form_sum-requires : goal.form_sum-requires
form_sum-requires c =
    let fine : Fine c.args.walk.now c.args.i = search rules in
    (form-passing c.args.walk.now fine c.operands_at-f.ensures).0

pub returns : goal.returns
returns c =
    let fine : Fine c.args.walk.now c.args.i = search rules in
    let head = start-need c.start.ensures _ _ c.open_head-head.ensures in
    node-long c.args.walk.now fine c.operands_at-f.ensures c.requires.1 head c.closed.ensures c.form_sum.ensures
