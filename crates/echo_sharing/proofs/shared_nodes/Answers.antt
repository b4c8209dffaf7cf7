-- `shared_nodes` meets its contract.
use Rattle.std.proofs.Common.{arith, sym, ◌∙◌}
use Rattle.lent.specs.Records.{nodes-length}
use Rattle.echo_sharing.specs.Counts.{guard}
use Rattle.echo_sharing.specs.Flags.{shared-flags}
use Rattle.echo_sharing.proofs.shared_nodes.Goals as goal

pub no_shared-requires : goal.no_shared-requires
no_shared-requires c = omega (arith, nodes-length c.args.problem.now.nodes.now)

pub returns-then-no_shared : goal.returns-then-no_shared
returns-then-no_shared c =
    sym (guard c.args.problem.now.nodes.now c.args.problem.now.side.now c.args.problem.now.roots.now c.requires c.count_uses.ensures c.no_shared.ensures) ∙ c.if-no_shared.true

pub shared_table-requires : goal.shared_table-requires
shared_table-requires c = omega (arith, nodes-length c.args.problem.now.nodes.now)

pub returns : goal.returns
returns c = (
  sym (guard c.args.problem.now.nodes.now c.args.problem.now.side.now c.args.problem.now.roots.now c.requires c.count_uses.ensures c.no_shared.ensures) ∙ c.if-no_shared.false,
  shared-flags c.args.problem.now.nodes.now c.args.problem.now.side.now c.args.problem.now.roots.now c.requires c.count_uses.ensures c.shared_table.ensures,
)
