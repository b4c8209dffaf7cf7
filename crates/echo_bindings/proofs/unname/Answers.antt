-- `unname` meets its contract: the first marks have no name. Assumes nothing.
use Rattle.std.proofs.Common.{rules}
use Rattle.std.proofs.lemmas.List.Edits.{map_over_more}
use Rattle.echo_bindings.specs.Naming.{unnamed}
use Rattle.echo_bindings.proofs.unname.Goals as goal

pub loop-m-preserved : goal.loop-m-preserved
loop-m-preserved c = search (rules, map_over_more unnamed)
