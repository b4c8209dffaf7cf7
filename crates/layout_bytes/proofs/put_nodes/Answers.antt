-- `layout_bytes::put_nodes` meets its contract: four inputs. Assumes nothing.
use Rattle.layout_bytes.proofs.Writing.{input_last, input-then}
use Rattle.layout_bytes.proofs.put_nodes.Goals as goal

pub returns : goal.returns
returns c =
    input-then _ _ _ c.put_bytes-q.ensures (input-then _ _ _ c.put_bytes-s.ensures (input-then _ _ _ c.put_numbers-t.ensures (input_last _ _ c.put_numbers.ensures)))
