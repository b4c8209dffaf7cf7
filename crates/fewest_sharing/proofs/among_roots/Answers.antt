-- `fewest_sharing::among_roots` meets its contract. Assumes nothing.
use Rattle.std.proofs.Common.{arith, sym, ◌∙◌}
use Rattle.echo_spec.specs.Input.{nodes_of}
use Rattle.lent.specs.Records.{nodes-length}
use Rattle.fewest_sharing.specs.Found.{operands-share}
use Rattle.fewest_sharing.specs.Told.{one_told, none_told, two_told, counts_of, none_is}
use Rattle.fewest_sharing.proofs.among_roots.Goals as goal

pub no_shared-requires : goal.no_shared-requires
no_shared-requires c = omega (arith, nodes-length c.args.problem.now.nodes.now, c.requires.small)

pub returns-then-not-no_shared : goal.returns-then-not-no_shared
returns-then-not-no_shared c =
    operands-share (nodes_of c.args.problem.now.nodes.now) c.args.problem.now.side.now c.args.problem.now.roots.now c.requires.shared
    (sym (none_is c.args.problem.now.nodes.now c.args.problem.now.side.now c.requires.small c.count_operands.ensures c.no_shared.ensures) ∙ c.if-not-no_shared.true)

pub returns-in-Some : goal.returns-in-Some
returns-in-Some c =
    one_told (nodes_of c.args.problem.now.nodes.now) c.args.problem.now.side.now c.args.problem.now.roots.now c.args.shared.now c.requires.set
    (counts_of c.args.problem.now.nodes.now c.args.problem.now.side.now c.requires.small c.count_operands.ensures) c.requires.shared
    (sym (none_is c.args.problem.now.nodes.now c.args.problem.now.side.now c.requires.small c.count_operands.ensures c.no_shared.ensures) ∙ c.if-not-no_shared.false) c.in-Some.ensures

pub returns : goal.returns
returns c =
    two_told (nodes_of c.args.problem.now.nodes.now) c.args.problem.now.side.now c.args.problem.now.roots.now c.args.shared.now c.requires.set
    (counts_of c.args.problem.now.nodes.now c.args.problem.now.side.now c.requires.small c.count_operands.ensures) c.requires.shared
    (sym (none_is c.args.problem.now.nodes.now c.args.problem.now.side.now c.requires.small c.count_operands.ensures c.no_shared.ensures) ∙ c.if-not-no_shared.false) c.in_default.ensures
    c.in_ok-j.ensures

pub returns-in_err-j : goal.returns-in_err-j
returns-in_err-j c =
    rw c.from_residual.ensures
    (none_told (nodes_of c.args.problem.now.nodes.now) c.args.problem.now.side.now c.args.problem.now.roots.now c.args.shared.now c.requires.set
    (counts_of c.args.problem.now.nodes.now c.args.problem.now.side.now c.requires.small c.count_operands.ensures) c.requires.shared
    (sym (none_is c.args.problem.now.nodes.now c.args.problem.now.side.now c.requires.small c.count_operands.ensures c.no_shared.ensures) ∙ c.if-not-no_shared.false) c.in_default.ensures
    c.in_err-j.ensures)
