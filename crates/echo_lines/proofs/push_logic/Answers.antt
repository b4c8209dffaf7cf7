-- `echo_lines::push_logic` meets its contract: three pieces, one after the other. Assumes nothing.
use mathlib.Core.Path.{ap, ◌∙◌}
use Rattle.echo_bytes.specs.Page.{written}
use Rattle.echo_lines.specs.Lines.{logic_for}
use Rattle.lists.specs.Bytes.{bytes}
use Rattle.echo_bytes.specs.Laws.{written_then}
use Rattle.echo_lines.proofs.push_logic.Goals as goal

pub returns : goal.returns
unfolding bytes logic_for
returns c =
    written_then _ _ _ c.word.ensures
    (written_then _ _ _ (c.word-named.ensures ∙ ap (written _) c.logic_name.ensures) c.close_line.ensures)
