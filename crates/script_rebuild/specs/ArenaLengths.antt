-- How long the names of each table are.
use Rattle.std.specs.Prelude.{◌≡◌, length}
use Rattle.reading.specs.Trees.{Declarations}
use Rattle.readback.specs.Printable.{variable_names_in, array_names_in, function_names_in}
use Rattle.readback.specs.Rebuild.{arena}
use Rattle.script_rebuild.specs.declared.Arenas.{Arenas}

pub record ArenasAre (D : Declarations) (r : Arenas) : Type 0 where
  pub names : r.names ≡ length (arena (variable_names_in D))
  pub anames : r.anames ≡ length (arena (array_names_in D))
  pub fnames : r.fnames ≡ length (arena (function_names_in D))
