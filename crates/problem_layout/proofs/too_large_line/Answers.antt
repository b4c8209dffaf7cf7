-- `problem_layout::too_large_line` meets its contract: five pieces. Assumes nothing.
use Rattle.lists.specs.Bytes.{bytes}
use Rattle.echo_bytes.specs.Laws.{written_then}
use Rattle.problem_layout.specs.Lines.{too_large_line}
use Rattle.problem_layout.proofs.too_large_line.Goals as goal

pub returns : goal.returns
unfolding bytes too_large_line
returns c = rw (← c.limit.ensures.0) (written_then _ _ _ c.word-opened.ensures (written_then _ _ _ c.input_text.ensures (written_then _ _ _ c.word.ensures (written_then _ _ _ c.number.ensures c.word-2.ensures))))
