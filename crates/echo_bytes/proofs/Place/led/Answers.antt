-- `echo_bytes::Place::led` meets its contract: two bytes and a word, stored whole or one after the other. Assumes nothing.
use mathlib.Core.Path.{refl}
use native.Mathlib.Omega.{arith}
use Rattle.echo_bytes.specs.Laws.{written_then}
use Rattle.echo_bytes.proofs.Copying.{written-led}
use Rattle.echo_bytes.proofs.Place.led.Goals as goal

pub returns-then-all-out : goal.returns-then-all-out
returns-then-all-out c = written-led _ _ _ _ _ (omega arith) _ _ refl c.copy.ensures c.moved.ensures

pub returns : goal.returns
returns c = written_then _ _ _ c.byte.ensures (written_then _ _ _ c.byte-2.ensures c.word.ensures)
