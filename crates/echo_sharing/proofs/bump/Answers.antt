-- `bump` meets its contract, by whether the node was used before.
use Rattle.std.proofs.Common.{◌≡◌, ◌+◌, ap, arith, min, get_or, set}
use Rattle.echo_sharing.specs.Counts.{bumped}
use Rattle.echo_sharing.proofs.bump.Goals as goal

pub returns-then-uses-k-eq0 : goal.returns-then-uses-k-eq0
unfolding bumped
returns-then-uses-k-eq0 c =
    let e : 1 ≡ min (get_or c.args.uses.now c.args.i 0 + 1) 2 = omega (arith, c.if-uses-k-eq0.true) in
    ap (set c.args.uses.now c.args.i) e

pub returns-else-uses-k-eq0 : goal.returns-else-uses-k-eq0
unfolding bumped
returns-else-uses-k-eq0 c =
    let e : 2 ≡ min (get_or c.args.uses.now c.args.i 0 + 1) 2 = omega (arith, c.if-uses-k-eq0.false) in
    ap (set c.args.uses.now c.args.i) e
