-- `problem_layout::early_line` meets its contract: three pieces. Assumes nothing.
use Rattle.lists.specs.Bytes.{bytes}
use Rattle.echo_bytes.specs.Laws.{written_then}
use Rattle.problem_layout.specs.Lines.{early_line}
use Rattle.problem_layout.proofs.early_line.Goals as goal

pub returns : goal.returns
unfolding bytes early_line
returns c = written_then _ _ _ c.word-opened.ensures (written_then _ _ _ c.input_text.ensures c.word.ensures)
