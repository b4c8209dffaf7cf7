-- `echo_bytes::copy_digits` meets its contract: at the loop's test, the first j digits are stored, counted from the highest.
-- Assumes nothing.
use Rattle.echo_spec.specs.Render.{binary_digits}
use Rattle.echo_bytes.proofs.Copying.{Copied}
use Rattle.echo_bytes.proofs.copy_digits.Given as goal

abbrev pub invariant-loop-j : goal.invariant-loop-j
invariant-loop-j l = Copied l.initial.out l.at (binary_digits l.ds) l.k l.j l.out
