-- What a name by itself is, and which names a query declares: the laws are in proofs/NameLaws.antt.
use Rattle.std.specs.Prelude.{ℕ, ◌≤◌, Bool, ◌&&◌, not, ◌≢◌}
use mathlib.Core.List.{List, ◌++◌}
use Rattle.lists.specs.Tests.{every, in_list}
use Rattle.reading.specs.Trees.{Name}
use Rattle.echo_spec.specs.Input.{Dag, name_table, aname_table, fname_table}
use Rattle.echo_spec.specs.Names.{byte_ok, first_ok, reserved}

-- what a byte of a name is, and all that proofs use of it: it may stand between bars
pub record NameByte (c : ℕ) : Type 0 where
  pub printable : 32 ≤ c
  pub no_delete : c ≢ 127
  pub in_byte : c ≤ 255
  pub no-bar : c ≢ 124
  pub no_backslash : c ≢ 92

-- a name by itself
abbrev pub name_ok : Name → Bool
name_ok n = every byte_ok n && (first_ok n && not (in_list n reserved))

abbrev pub all_names : Dag → List Name
all_names d = name_table d ++ (aname_table d ++ fname_table d)
