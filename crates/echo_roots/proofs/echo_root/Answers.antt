-- `echo_root` meets its contract. Assumes nothing.
use Rattle.lists.specs.Bytes.{bytes}
use Rattle.echo_roots.proofs.RootsWritten.{root_in}
use Rattle.echo_roots.proofs.echo_root.Goals as goal

pub returns : goal.returns
unfolding bytes
returns c = root_in _ _ _ c.start.ensures c.open_assert-opened.ensures c.echo_node-term.ensures c.close_line.ensures
