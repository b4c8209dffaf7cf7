-- `layout_bytes::put_bytes` meets its contract: the count, and then the bytes. Assumes nothing.
use Rattle.layout_bytes.proofs.Writing.{bytes-written}
use Rattle.layout_bytes.proofs.put_bytes.Goals as goal

pub returns : goal.returns
returns c = bytes-written _ _ c.put_number.ensures c.word.ensures
