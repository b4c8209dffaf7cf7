-- `echo_lines::decl_func` meets its contract: the pieces of its line, one after the other. Assumes nothing.
use Rattle.echo_spec.specs.Render.{function_text}
use Rattle.lists.specs.Bytes.{bytes}
use Rattle.echo_bytes.specs.Laws.{written_then}
use Rattle.echo_lines.proofs.decl_func.Goals as goal

pub returns : goal.returns
unfolding bytes function_text
returns c =
    written_then _ _ _ c.word.ensures
    (written_then _ _ _ c.name-named.ensures
    (written_then _ _ _ c.word-2.ensures
    (written_then _ _ _ c.push_arg_sorts-sorted.ensures
    (written_then _ _ _ c.word-3.ensures
    (written_then _ _ _ c.push_sort-valued.ensures c.close_line.ensures)))))
