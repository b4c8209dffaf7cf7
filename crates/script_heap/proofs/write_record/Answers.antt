-- `write_record` meets its contract: the kind and four words, one behind the other.
use Rattle.lent.specs.Records.{node_of}
use Rattle.script_heap.specs.Laws.{record-stored}
use Rattle.script_heap.proofs.write_record.Goals as goal

pub returns : goal.returns
returns c = record-stored c.args.records.now c.args.at (node_of c.args.n) c.requires.room c.write_word.ensures c.write_word-2.ensures c.write_word-3.ensures c.write_word-4.ensures
