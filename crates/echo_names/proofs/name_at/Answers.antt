-- `name_at` meets its contract. Assumes nothing.
use Rattle.echo_names.specs.NameTables.{get_or-names_of}
use Rattle.echo_names.proofs.name_at.Goals as goal

pub returns : goal.returns
returns c =
    rw (get_or-names_of c.args.arena.now c.args.starts.now c.args.lens.now c.args.k c.requires, ← c.get.ensures, ← c.get-2.ensures)
    c.part.ensures
