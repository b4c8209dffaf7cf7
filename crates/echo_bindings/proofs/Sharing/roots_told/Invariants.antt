-- `roots_told` meets its contract: the roots from the place on decide the answer. Assumes nothing.
use Rattle.std.proofs.Common.{◌≡◌, drop}
use Rattle.lets.specs.Lets.{let_roots}
use Rattle.lent.specs.Lent.{dag_at}
use Rattle.echo_bindings.specs.Checking.{uses_at}
use Rattle.echo_bindings.proofs.Sharing.roots_told.Given as goal

abbrev pub invariant-loop-root : goal.invariant-loop-root
invariant-loop-root l =
    let_roots (dag_at l.self.problem.now) l.self.widths.now (uses_at l.self.problem.now) (drop l.root-index l.roots)
    ≡ let_roots (dag_at l.self.problem.now) l.self.widths.now (uses_at l.self.problem.now) l.roots
