-- `echo_pieces::push_apart` meets its contract: one word after the other. Assumes nothing.
use Rattle.echo_bytes.specs.Laws.{written_then}
use Rattle.echo_pieces.proofs.push_apart.Goals as goal

pub returns : goal.returns
returns c = written_then _ _ _ c.word.ensures (written_then _ _ _ c.word-2.ensures c.word-3.ensures)
