-- `echo_lines::decl_array` meets its contract: the pieces of its line, one after the other. Assumes nothing.
use Rattle.echo_spec.specs.Render.{array_text}
use Rattle.lists.specs.Bytes.{bytes}
use Rattle.echo_bytes.specs.Laws.{written_then}
use Rattle.echo_lines.proofs.decl_array.Goals as goal

pub returns : goal.returns
unfolding bytes array_text
returns c =
    written_then _ _ _ c.word.ensures
    (written_then _ _ _ c.name-named.ensures
    (written_then _ _ _ c.word-2.ensures
    (written_then _ _ _ c.push_sort-indexed.ensures
    (written_then _ _ _ c.byte.ensures
    (written_then _ _ _ c.push_sort.ensures c.word-3.ensures)))))
