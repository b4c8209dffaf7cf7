-- `echo_pieces::push_behind` meets its contract: nothing is written as it stands. Assumes nothing.
use mathlib.Core.Path.{sym}
use native.Mathlib.Omega.{arith}
use Rattle.echo_bytes.specs.Laws.{written-nil}
use Rattle.echo_pieces.specs.Pieces.{behind_text}
use Rattle.echo_pieces.proofs.push_behind.Goals as goal

pub returns-in-Nothing : goal.returns-in-Nothing
unfolding behind_text
returns-in-Nothing c = rw c.in-Nothing.is (sym (written-nil _ (omega arith)))
