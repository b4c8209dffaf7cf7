-- `layout_writer::put_problem` meets its contract: the eighteen inputs in four groups. Assumes nothing.
use Rattle.layout_bytes.specs.Encoding.{bytes_of_layout}
use Rattle.layout_bytes.proofs.Writing.{inputs-then}
use Rattle.layout_writer.proofs.put_problem.Goals as goal

pub returns : goal.returns
unfolding bytes_of_layout
returns c = inputs-then _ _ _ c.put_nodes-q.ensures (inputs-then _ _ _ c.put_table-s.ensures (inputs-then _ _ _ c.put_table-t.ensures c.put_table.ensures))
