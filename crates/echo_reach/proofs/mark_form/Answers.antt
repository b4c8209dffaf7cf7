-- `mark_form` meets its contract, arm by arm.
use Rattle.std.proofs.Common.{subst}
use Rattle.echo_tables.specs.Uses.{FormInside}
use Rattle.echo_reach.specs.Marks.{adds_none, adds-chain, vectors}
use Rattle.echo_reach.proofs.mark_form.Goals as goal

pub returns-in-Leaf : goal.returns-in-Leaf
returns-in-Leaf c = rw c.in-Leaf.is (adds_none _)

pub returns-in-One : goal.returns-in-One
returns-in-One c = rw c.in-One.is c.mark_one.ensures

pub returns-in-Two : goal.returns-in-Two
returns-in-Two c = rw c.in-Two.is c.mark_each.ensures

pub returns-in-Choice : goal.returns-in-Choice
returns-in-Choice c = rw c.in-Choice.is c.mark_each-in-Choice.ensures

pub returns-in-Chain : goal.returns-in-Chain
returns-in-Chain c =
    let i = subst (FormInside c.args.side.now) c.in-Chain.is c.requires in
    rw c.in-Chain.is (adds-chain c.args.side.now _ _ _ i c.mark_one-in-Chain.ensures (rw c.stores.ensures at c.mark_each-in-Chain.ensures))

pub returns-in-Arguments : goal.returns-in-Arguments
returns-in-Arguments c =
    rw (c.in-Arguments.is, vectors, ← c.stretch.ensures) c.mark_each-in-Arguments.ensures
