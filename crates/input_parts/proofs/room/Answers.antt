-- `room` meets its contract: the table's rooms are the definition's. Assumes nothing.
use Rattle.input_parts.proofs.Laws.{elements-in, limit-in, room-is}
use Rattle.input_parts.proofs.room.Goals as goal

pub returns-in-Bytes : goal.returns-in-Bytes
returns-in-Bytes c = room-is c.args.k c.requires (rw elements-in at c.in-Bytes.is)

pub returns-in-Numbers : goal.returns-in-Numbers
returns-in-Numbers c = rw limit-in (room-is c.args.k c.requires (rw elements-in at c.in-Numbers.is))
