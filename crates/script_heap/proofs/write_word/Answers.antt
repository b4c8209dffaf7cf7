-- `write_word` meets its contract: the number's four bytes are put in.
use Rattle.std.proofs.Common.{◌∙◌, ◌+◌, ◌-◌, arith}
use Rattle.script_heap.specs.Laws.{word-put}
use Rattle.script_heap.proofs.write_word.Goals as goal

pub returns : goal.returns
returns c = word-put c.args.records.now _ c.args.at (c.args.at + 4 - c.args.at) c.args.v (omega (arith, c.ranges.v)) (omega arith) (c.copy_from_slice.ensures.after ∙ c.to_le_bytes.ensures)
