-- The names of a problem, as the code has them by table.
use Rattle.std.specs.Prelude.{ℕ, ◌≡◌, List}
use Rattle.echo_spec.specs.Input.{Dag, names_of, name_table, aname_table, fname_table}
use Rattle.echo_names.specs.declared.NameTable.{NameTable}
use Rattle.echo_checks.specs.declared.Names.{Names}

abbrev pub names_in : NameTable → List (List ℕ)
names_in t = names_of t.arena.now t.starts.now t.lens.now

pub record NamesOf (d : Dag) (n : Names) : Type 0 where
  pub variables : names_in n.variables ≡ name_table d
  pub arrays : names_in n.arrays ≡ aname_table d
  pub functions : names_in n.functions ≡ fname_table d
