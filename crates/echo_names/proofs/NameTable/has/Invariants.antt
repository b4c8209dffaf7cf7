-- `has` meets its contract: the names from j on decide the answer.
use mathlib.Core.Path.{◌≡◌}
use lib.ListN.{take}
use Rattle.lists.specs.Tests.{in_list}
use Rattle.echo_spec.specs.Input.{names_of}
use Rattle.echo_names.specs.NameTables.{has_from}
use Rattle.echo_names.proofs.NameTable.has.Given as goal

abbrev pub invariant-loop-j : goal.invariant-loop-j
invariant-loop-j l =
    has_from l.name l.self.arena.now l.self.starts.now l.self.lens.now l.upto l.j
    ≡ in_list l.name (take l.upto (names_of l.self.arena.now l.self.starts.now l.self.lens.now))
