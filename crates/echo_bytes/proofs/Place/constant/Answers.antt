-- `echo_bytes::Place::constant` meets its contract: two pieces, one after the other. Assumes nothing.
use Rattle.lists.specs.Bytes.{bytes}
use Rattle.echo_bytes.specs.Laws.{written_then}
use Rattle.echo_bytes.proofs.Digits.{bits-digits}
use Rattle.echo_bytes.proofs.Place.constant.Goals as goal

pub digits-requires : goal.digits-requires
digits-requires c =
    bits-digits c.args.bits.now c.requires

pub returns : goal.returns
unfolding bytes
returns c = written_then _ _ _ c.word.ensures c.digits.ensures
