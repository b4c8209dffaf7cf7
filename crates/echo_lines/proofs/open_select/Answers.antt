-- `echo_lines::open_select` meets its contract: three pieces, one after the other. Assumes nothing.
use Rattle.lists.specs.Bytes.{bytes}
use Rattle.echo_bytes.specs.Laws.{written_then}
use Rattle.echo_lines.proofs.open_select.Goals as goal

pub returns : goal.returns
unfolding bytes
returns c =
    written_then _ _ _ c.word-opened.ensures
    (written_then _ _ _ c.push_repeated.ensures c.name.ensures)
