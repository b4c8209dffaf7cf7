-- `open_binding` meets its contract. Assumes nothing.
use Rattle.lists.specs.Bytes.{bytes}
use Rattle.echo_bytes.specs.Laws.{written_then}
use Rattle.echo_bindings.proofs.open_binding.Goals as goal

pub returns : goal.returns
unfolding bytes
returns c = written_then _ _ _ c.word.ensures c.push_named.ensures
