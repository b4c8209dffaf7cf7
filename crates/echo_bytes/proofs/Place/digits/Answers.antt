-- `echo_bytes::Place::digits` meets its contract: the digits that fit are copied, and all are counted. Assumes nothing.
use mathlib.Core.Path.{refl}
use Rattle.echo_bytes.proofs.Copying.{written-moved}
use Rattle.echo_bytes.proofs.Digits.{length_digits}
use Rattle.echo_bytes.proofs.Place.digits.Goals as goal

pub returns : goal.returns
returns c =
    written-moved _ _ _ _ _ _ (rw length_digits c.fitting-k.ensures) (rw length_digits refl)
    c.copy_digits.ensures c.moved.ensures
