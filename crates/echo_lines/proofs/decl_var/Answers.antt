-- `echo_lines::decl_var` meets its contract: the pieces of its line, one after the other. Assumes nothing.
use Rattle.echo_spec.specs.Render.{variable_text}
use Rattle.lists.specs.Bytes.{bytes}
use Rattle.echo_bytes.specs.Laws.{written_then}
use Rattle.echo_lines.proofs.decl_var.Goals as goal

pub returns : goal.returns
unfolding bytes variable_text
returns c =
    written_then _ _ _ c.word.ensures
    (written_then _ _ _ c.name-named.ensures
    (written_then _ _ _ c.byte.ensures
    (written_then _ _ _ c.push_sort-sorted.ensures c.close_line.ensures)))
