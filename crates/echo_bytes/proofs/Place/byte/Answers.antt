-- `echo_bytes::Place::byte` meets its contract: with room the byte is stored, past the end it is counted alone. Assumes nothing.
use mathlib.Core.Path.{refl}
use Rattle.echo_bytes.proofs.Copying.{written_none, written_byte}
use Rattle.echo_bytes.proofs.Place.byte.Goals as goal

pub returns-then-self-out : goal.returns-then-self-out
returns-then-self-out c = written_byte _ _ _ c.if-self-out.true c.moved.ensures

pub returns : goal.returns
returns c = written_none _ _ _ _ c.if-self-out.false refl c.moved-2.ensures
