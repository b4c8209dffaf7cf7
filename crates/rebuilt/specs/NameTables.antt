-- Names that are permitted one after the other: each passes by itself, and none occurs twice.
use Rattle.std.specs.Prelude.{ℕ, ◌≡◌, refl, List, [], ◌∷◌, ◌++◌, map, Bool, ◌&&◌, length}
use Rattle.std.proofs.Common.{ap, sym, ◌∙◌}
use Rattle.std.proofs.Math.Path.{subst}
use Rattle.std.proofs.Math.Dec.{T}
use Rattle.lists.specs.Tests.{All, distinct}
use Rattle.reading.specs.Trees.{Name}
use Rattle.echo_spec.specs.Input.{Dag, array_columns, name_table, aname_table, fname_table}
use Rattle.echo_spec.specs.Names.{table_ok, names_ok}
use Rattle.echo_spec.specs.NameLaws.{name_ok, all_names}
use Rattle.echo_spec.proofs.NameLaws.{names-distinct, names-ok}
use Rattle.readback.specs.Printable.{names_permitted}
use Rattle.readback.specs.Rebuild.{starts_counted_from, arena}
use Rattle.rebuilt.specs.Layout.{names-back}

module _ (vs rs fs : List Name) where
  -- a query of these names and nothing else
  abbrev named : Dag
  named = record {
    nodes = [];
    side = [];
    names = arena vs;
    name_start = starts_counted_from 0 vs;
    name_len = map length vs;
    var_node = [];
    var_width = [];
    anames = arena rs;
    aname_start = starts_counted_from 0 rs;
    aname_len = map length rs;
    array-widths = array_columns [] [];
    fnames = arena fs;
    fname_start = starts_counted_from 0 fs;
    fname_len = map length fs;
    func_width = [];
  }

  all_are : all_names named ≡ vs ++ (rs ++ fs)
  all_are = λ i. names-back vs i ++ (names-back rs i ++ names-back fs i)

  permitted : T (names_permitted vs rs fs) → T (names_ok named)
  unfolding names_ok
  permitted h = subst T (λ i. names_permitted (sym (names-back vs) i) (sym (names-back rs) i) (sym (names-back fs) i)) h

  pub tables-distinct : T (names_permitted vs rs fs) → T (distinct (vs ++ (rs ++ fs)))
  tables-distinct h = subst (λ (ns : List Name). T (distinct ns)) all_are (names-distinct named (permitted h))

  pub tables-named : T (names_permitted vs rs fs) → All name_ok (vs ++ (rs ++ fs))
  tables-named h = subst (λ (ns : List Name). All name_ok ns) all_are (names-ok named (permitted h))
