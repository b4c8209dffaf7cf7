-- `let_roots` meets its contract: before each turn, the roots before its own are written, and the marks are the same but for names. Assumes nothing.
use Rattle.std.proofs.Common.{◌≡◌, map}
use Rattle.echo_bytes.specs.Page.{page}
use Rattle.echo_bindings.specs.Naming.{unnamed, assertion_text}
use Rattle.echo_roots.proofs.RootsWritten.{RootsSoFar}
use Rattle.let_script.proofs.let_roots.Given as goal

abbrev pub invariant-loop-root : goal.invariant-loop-root
invariant-loop-root l =
    RootsSoFar (assertion_text l.assertions.sharing.problem.now l.assertions.sharing.widths.now) l.roots (page l.initial.q l.initial.out) l.root-index l.q l.out
    × (map unnamed l.marks ≡ map unnamed l.initial.marks)
