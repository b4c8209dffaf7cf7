-- `echo_bytes::Place::cut` meets its contract: the bytes that fit are copied, and all are counted. Assumes nothing.
use mathlib.Core.Path.{refl}
use native.Mathlib.Omega.{arith}
use Rattle.echo_bytes.proofs.Copying.{written_none, written-moved, over-part}
use Rattle.echo_bytes.proofs.Place.cut.Goals as goal

pub returns-then-self-out : goal.returns-then-self-out
returns-then-self-out c =
    written-moved _ _ _ _ _ _ c.fitting-k.ensures refl (over-part _ _ _ _ _ _ refl (omega (arith, c.fitting-k.ensures)) c.copy.ensures) c.moved.ensures

pub returns : goal.returns
returns c = written_none _ _ _ _ c.if-self-out.false refl c.moved-2.ensures
