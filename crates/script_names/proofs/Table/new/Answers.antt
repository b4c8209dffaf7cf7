-- `Table::new` meets its contract: arrays of so many elements, and no line has a hash.
use Rattle.std.proofs.Common.{ℕ, Option, None, ap}
use Rattle.std.proofs.lemmas.List.{length-replicate, get_or-replicate}
use Rattle.script_names.specs.Entries.{no_line, link_of}
use Rattle.script_names.proofs.Table.new.Goals as goal

pub returns : goal.returns
returns c = record {
  long = record { lines = length-replicate 1536 no_line; last = length-replicate {A = Option ℕ} 4096 None };
  zeros = λ h l. ap link_of (get_or-replicate {A = Option ℕ} 4096 h None None l);
}
