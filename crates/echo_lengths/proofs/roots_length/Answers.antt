-- `echo_lengths::roots_length` meets its contract. Assumes nothing.
use Rattle.std.proofs.Common.{arith}
use Rattle.echo_lengths.proofs.Lengths.{roots-long}
use Rattle.echo_lengths.proofs.roots_length.Goals as goal

pub returns : goal.returns
returns c = roots-long c.loop-i.invariant (omega arith) c.requires.0 c.args.c c.saturating_add-lines.ensures c.add_each.ensures
