-- `problem_layout::input_text` meets its contract: four pieces. Assumes nothing.
use Rattle.lists.specs.Bytes.{bytes}
use Rattle.echo_bytes.specs.Laws.{written_then}
use Rattle.problem_layout.specs.Lines.{input_text}
use Rattle.problem_layout.proofs.input_text.Goals as goal

pub returns : goal.returns
unfolding bytes input_text
returns c = rw (← c.name.ensures) (written_then _ _ _ c.word.ensures (written_then _ _ _ c.number.ensures (written_then _ _ _ c.word-2.ensures c.word-3.ensures)))
