-- `echo_lines::push_sort` meets its contract: three pieces, one after the other. Assumes nothing.
use Rattle.echo_spec.specs.Render.{sort_text}
use Rattle.lists.specs.Bytes.{bytes}
use Rattle.echo_bytes.specs.Laws.{written_then}
use Rattle.echo_lines.proofs.push_sort.Goals as goal

pub returns : goal.returns
unfolding bytes sort_text
returns c =
    written_then _ _ _ c.word.ensures
    (written_then _ _ _ c.number.ensures c.byte.ensures)
