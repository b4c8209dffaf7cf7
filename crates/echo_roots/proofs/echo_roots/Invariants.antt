-- `echo_roots` meets its contract: before each turn, the roots before its own are written. Assumes nothing.
use Rattle.echo_bytes.specs.Page.{page}
use Rattle.echo_walk.specs.Walks.{text_at}
use Rattle.echo_roots.proofs.RootsWritten.{RootsSoFar}
use Rattle.echo_roots.proofs.echo_roots.Given as goal

abbrev pub invariant-loop-root : goal.invariant-loop-root
invariant-loop-root l = RootsSoFar (text_at l.walk) l.roots (page l.initial.q l.initial.out) l.root-index l.q l.out
