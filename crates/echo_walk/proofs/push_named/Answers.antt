use Rattle.lists.specs.Bytes.{bytes}
use Rattle.echo_bytes.specs.Laws.{written_then}
use Rattle.echo_walk.specs.Texts.{named}
use Rattle.echo_walk.proofs.push_named.Goals as goal

pub returns : goal.returns
unfolding bytes named
returns c =
    written_then _ _ _ c.byte.ensures
    (written_then _ _ _ c.byte-2.ensures
    (written_then _ _ _ c.number.ensures c.byte-3.ensures))
