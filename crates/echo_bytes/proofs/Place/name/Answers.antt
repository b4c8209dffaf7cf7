-- `echo_bytes::Place::name` meets its contract: three pieces, one after the other. Assumes nothing.
use Rattle.lists.specs.Bytes.{bytes}
use Rattle.echo_spec.specs.Render.{quoted}
use Rattle.echo_bytes.specs.Laws.{written_then}
use Rattle.echo_bytes.proofs.Place.name.Goals as goal

pub returns : goal.returns
unfolding bytes quoted
returns c =
    written_then _ _ _ c.byte.ensures
    (written_then _ _ _ c.word.ensures c.byte-2.ensures)
