-- `echo_pieces::push_between` meets its contract: a sign that fits is copied whole. Assumes nothing.
use mathlib.Core.Path.{refl, ap, ◌∙◌}
use mathlib.Core.List.{append-nil}
use native.Mathlib.Omega.{arith}
use Rattle.echo_bytes.specs.Page.{written}
use Rattle.echo_bytes.proofs.Copying.{written-whole}
use Rattle.echo_pieces.proofs.push_between.Goals as goal

pub returns-then-n-out : goal.returns-then-n-out
returns-then-n-out c = written-whole _ _ _ _ _ refl (omega arith) c.copy_ends.ensures c.moved.ensures

pub returns : goal.returns
returns c = c.push_apart.ensures ∙ ap (written _) (append-nil _)
