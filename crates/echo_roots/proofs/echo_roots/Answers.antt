-- `echo_roots` meets its contract: before each turn, the roots before its own are written. Assumes nothing.
use Rattle.std.proofs.Common.{arith}
use Rattle.echo_roots.proofs.RootsWritten.{no-roots, roots-size, root-inside, root-done, roots-end}
use Rattle.echo_roots.proofs.echo_roots.Goals as goal

pub loop-root-init : goal.loop-root-init
loop-root-init c = no-roots _ _ _ (omega arith) c.requires.1

pub moved-q-requires : goal.moved-q-requires
moved-q-requires c = omega (arith, roots-size c.loop-root.invariant, root-inside c.loop-root.invariant c.echo_root-r.ensures)

pub loop-root-preserved : goal.loop-root-preserved
loop-root-preserved c = root-done c.loop-root.invariant c.echo_root-r.ensures (omega arith) c.moved-q.ensures

pub returns : goal.returns
returns c = roots-end c.loop-root.invariant (omega arith)
