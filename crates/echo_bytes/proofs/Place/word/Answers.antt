-- `echo_bytes::Place::word` meets its contract: a word that fits is copied whole. Assumes nothing.
use mathlib.Core.Path.{refl}
use native.Mathlib.Omega.{arith}
use Rattle.echo_bytes.proofs.Copying.{written-whole}
use Rattle.echo_bytes.proofs.Place.word.Goals as goal

pub returns-then-k-out : goal.returns-then-k-out
returns-then-k-out c =
    written-whole _ _ _ _ _ refl (omega arith) c.copy.ensures c.moved.ensures
