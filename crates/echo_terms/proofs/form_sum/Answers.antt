-- `echo_terms::form_sum` meets its contract: the arms whose operands stand in the side entries. Assumes nothing.
use Rattle.std.proofs.Common.{subst}
use Rattle.echo_tables.specs.Uses.{FormInside}
use Rattle.echo_terms.specs.TermTable.{chain-sum, arguments-sum}
use Rattle.echo_terms.proofs.form_sum.Goals as goal

pub returns-in-Chain : goal.returns-in-Chain
returns-in-Chain c =
    let inside = subst (FormInside c.args.side.now) c.in-Chain.is c.requires in
    cc (chain-sum c.args.t.now c.args.c c.args.side.now c.in-Chain.s c.in-Chain.n c.in-Chain.j inside)

pub returns-in-Arguments : goal.returns-in-Arguments
returns-in-Arguments c = cc (arguments-sum c.args.t.now c.args.c c.args.side.now c.in-Arguments.s c.in-Arguments.n)
