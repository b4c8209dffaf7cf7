-- `echo_openings::write_eights` meets its contract: after each turn eight digits more are stored. Assumes nothing.
use Prim.Native.Nat.{◌*◌}
use Rattle.echo_spec.specs.Render.{binary_digits}
use Rattle.echo_openings.proofs.Storing.{Stored}
use Rattle.echo_openings.proofs.write_eights.Given as goal

abbrev pub invariant-loop-i : goal.invariant-loop-i
invariant-loop-i l = Stored (binary_digits l.bits) (8 * l.i) l.to
