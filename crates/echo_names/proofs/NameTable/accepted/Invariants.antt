-- `accepted` meets its contract: the entries from k on, after all before them, decide the answer.
use mathlib.Core.Path.{◌≡◌}
use mathlib.Core.List.{◌++◌}
use Rattle.echo_spec.specs.Input.{names_of}
use Rattle.echo_spec.specs.Names.{table_ok}
use Rattle.echo_names.specs.NameTables.{table_from}
use Rattle.echo_names.proofs.NameTable.accepted.Given as goal

abbrev pub invariant-loop-k : goal.invariant-loop-k
invariant-loop-k l =
    table_from l.self.arena.now l.self.starts.now l.self.lens.now l.first.arena.now l.first.starts.now l.first.lens.now l.second.arena.now l.second.starts.now l.second.lens.now l.k
    ≡ table_ok (names_of l.first.arena.now l.first.starts.now l.first.lens.now ++ names_of l.second.arena.now l.second.starts.now l.second.lens.now)
    (names_of l.self.arena.now l.self.starts.now l.self.lens.now)
