-- `unshared` meets its contract.
use Rattle.std.proofs.Common.{arith}
use Rattle.lent.specs.Records.{nodes-length}
use Rattle.echo_sharing.specs.Counts.{guard}
use Rattle.echo_sharing.proofs.unshared.Goals as goal

pub no_shared-requires : goal.no_shared-requires
no_shared-requires c = omega (arith, nodes-length c.args.problem.now.nodes.now)

pub returns : goal.returns
returns c =
    guard c.args.problem.now.nodes.now c.args.problem.now.side.now c.args.problem.now.roots.now c.requires c.count_uses.ensures c.no_shared.ensures
