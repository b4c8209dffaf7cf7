-- `let_roots` meets its contract: before each turn, the roots before its own are written, and the marks are the same but for names. Assumes nothing.
use Rattle.std.proofs.Common.{arith, refl, ◌∙◌}
use Rattle.echo_roots.specs.Roots.{root_text}
use Rattle.echo_roots.proofs.RootsWritten.{no-roots, roots-size, root-inside, root-done}
use Rattle.echo_bindings.specs.Naming.{told-over}
use Rattle.let_script.proofs.let_roots.Goals as goal

pub loop-root-init : goal.loop-root-init
loop-root-init c = (no-roots _ _ _ (omega arith) c.requires.inside, refl)

pub echo_assertion-r-requires : goal.echo_assertion-r-requires
echo_assertion-r-requires c =
    record { told = told-over c.loop-root.invariant.1 c.requires.told; here = c.requires.free.here c.loop-root.root-index (omega arith); free = c.requires.free.free c.loop-root.root-index (omega arith) }

pub moved-q-requires : goal.moved-q-requires
unfolding root_text
moved-q-requires c = omega (arith, roots-size c.loop-root.invariant.0, root-inside c.loop-root.invariant.0 c.echo_assertion-r.ensures.text)

pub loop-root-preserved : goal.loop-root-preserved
unfolding root_text
loop-root-preserved c =
    (root-done c.loop-root.invariant.0 c.echo_assertion-r.ensures.text (omega arith) c.moved-q.ensures, c.echo_assertion-r.ensures.told ∙ c.loop-root.invariant.1)
