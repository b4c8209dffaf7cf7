-- `lent::clear` meets its contract. Assumes nothing.
use Rattle.std.proofs.Common.{◌<◌, arith, length}
use Rattle.lent.specs.Clearing.{fill_next, fill-ends}
use Rattle.lent.proofs.clear.Goals as goal

pub loop-x-preserved : goal.loop-x-preserved
loop-x-preserved g c =
    let l : c.loop-x.x-index < length c.args.out.now = omega arith in
    rw (c.ZERO.ensures, c.loop-x.invariant) (fill_next g.T.Zero.ZERO c.args.out.now c.loop-x.x-index l)
