-- The readings that have a script: what the printer asks of declarations and assertions, the limits left aside.
use Rattle.std.specs.Prelude.{ℕ, List, [], ◌++◌, map, Bool, ◌&&◌}
use Rattle.lists.specs.Tests.{every}
use Rattle.reading.specs.Trees.{Name, Variable, Array, Function, Declarations, Reading}
use Rattle.echo_spec.specs.Widths.{array_width_ok}
use Rattle.echo_spec.specs.Names.{table_ok}
use Rattle.echo_spec.specs.TreeSorts.{bits, proper, all_bool}

-- the names that are declared, in order
abbrev pub variable_names_in : Declarations → List Name
variable_names_in D = map (λ (v : Variable). v.name) D.variables

abbrev pub array_names_in : Declarations → List Name
array_names_in D = map (λ (a : Array). a.name) D.arrays

abbrev pub function_names_in : Declarations → List Name
function_names_in D = map (λ (f : Function). f.name) D.functions

-- each is permitted, and after the names before it
abbrev pub names_permitted : List Name → List Name → List Name → Bool
names_permitted vs rs fs = table_ok [] vs && (table_ok vs rs && table_ok (vs ++ rs) fs)

-- a width is above 0 and has 64 bits
abbrev pub width_ok : ℕ → Bool
width_ok w = proper (bits w)

abbrev pub variable_ok : Variable → Bool
variable_ok v = width_ok v.width

-- an array's widths are not above 65,536
abbrev pub array_ok : Array → Bool
array_ok a = array_width_ok a.index && array_width_ok a.value

abbrev pub function_ok : Function → Bool
function_ok f = every width_ok f.arguments && width_ok f.width

unfoldable pub declarable : Declarations → Bool
declarable D =
    names_permitted (variable_names_in D) (array_names_in D) (function_names_in D)
    && (every variable_ok D.variables && (every array_ok D.arrays && every function_ok D.functions))

-- and every assertion is a Bool under the declarations
unfoldable pub printable : Reading → Bool
printable r = declarable r.declarations && all_bool r.declarations r.assertions
