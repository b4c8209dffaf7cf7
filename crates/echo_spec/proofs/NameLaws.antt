-- Laws of names: what holds of the names that the tables of an accepted query declare.
use Rattle.std.specs.Prelude.{ℕ, ◌≡◌, false, ◌&&◌, not, T, leb, eqb}
use mathlib.Core.List.{List, [], ◌∷◌, ◌++◌, append_assoc, append-nil}
use Rattle.std.proofs.Common.{leb→le, le→leb, eqb→eq, T_not}
use Rattle.std.proofs.Math.Dec.{not_T}
use Rattle.lists.specs.Tests.{
  among,
  every,
  All,
  among-every,
  every-all,
  every_in,
  in_list,
  no→false,
  distinct,
  distinct_snoc,
  differs,
  and_0,
  and-1,
  and_T,
  all_append,
}
use Rattle.reading.specs.Trees.{Name}
use Rattle.echo_spec.specs.Input.{Dag, name_table, aname_table, fname_table}
use Rattle.echo_spec.specs.Names.{byte_ok, first_ok, reserved, entry_ok, table_ok, names_ok}
use Rattle.echo_spec.specs.NameLaws.{NameByte, name_ok, all_names}

pub name-byte : (c : ℕ) → T (byte_ok c) → NameByte c
unfolding byte_ok
name-byte c t =
    let t₁ = and-1 (leb 32 c) _ t in
    let t₂ = and-1 (not (eqb c 127)) _ t₁ in
    let t₃ = and-1 (leb c 255) _ t₂ in
    record {
      printable = leb→le 32 c (and_0 (leb 32 c) _ t);
      no_delete = differs c 127 (and_0 (not (eqb c 127)) _ t₁);
      in_byte = leb→le c 255 (and_0 (leb c 255) _ t₂);
      no-bar = differs c 124 (and_0 (not (eqb c 124)) (not (eqb c 92)) t₃);
      no_backslash = differs c 92 (and-1 (not (eqb c 124)) (not (eqb c 92)) t₃);
    }

pub byte-named : (c : ℕ) → NameByte c → T (byte_ok c)
unfolding byte_ok
byte-named c b =
    and_T (leb 32 c) _ (le→leb 32 c b.printable)
    (and_T (not (eqb c 127)) _ (not_T (eqb c 127) λ e. b.no_delete (eqb→eq c 127 e))
    (and_T (leb c 255) _ (le→leb c 255 b.in_byte)
    (and_T (not (eqb c 124)) (not (eqb c 92)) (not_T (eqb c 124) λ e. b.no-bar (eqb→eq c 124 e)) (not_T (eqb c 92) λ e. b.no_backslash (eqb→eq c 92 e)))))

entry-name : (before : List Name) (n : Name) → T (entry_ok before n) → T (name_ok n) × T (not (in_list n before))
unfolding entry_ok
entry-name before n t =
    let t₁ = and-1 (every byte_ok n) _ t in
    let t₂ = and-1 (first_ok n) _ t₁ in (
      and_T (every byte_ok n) (first_ok n && not (in_list n reserved)) (and_0 (every byte_ok n) _ t)
          (and_T (first_ok n) (not (in_list n reserved)) (and_0 (first_ok n) _ t₁) (and_0 (not (in_list n reserved)) (not (in_list n before)) t₂)),
      and-1 (not (in_list n reserved)) (not (in_list n before)) t₂,
    )

table-names : (before ns : List Name) → T (table_ok before ns) → All name_ok ns
unfolding table_ok
table-names before [] t = tt
table-names before (n ∷ ns) t =
    ((entry-name before n (and_0 (entry_ok before n) _ t)).0, table-names (before ++ (n ∷ [])) ns (and-1 (entry_ok before n) _ t))

table-distinct : (before ns : List Name) → T (distinct before) → T (table_ok before ns) → T (distinct (before ++ ns))
unfolding table_ok
table-distinct before [] d t = rw append-nil d
table-distinct before (n ∷ ns) d t =
    let fresh = (entry-name before n (and_0 (entry_ok before n) _ t)).1 in
    let rest = table-distinct (before ++ (n ∷ [])) ns (distinct_snoc before n d fresh) (and-1 (entry_ok before n) _ t) in
    rw append_assoc at rest

module _ (d : Dag) (h : T (names_ok d)) where
  first-table : T (table_ok [] (name_table d))
  unfolding names_ok
  first-table = and_0 (table_ok [] (name_table d)) _ h

  second-table : T (table_ok (name_table d) (aname_table d))
  unfolding names_ok
  second-table = and_0 (table_ok (name_table d) (aname_table d)) _ (and-1 (table_ok [] (name_table d)) _ h)

  third-table : T (table_ok (name_table d ++ aname_table d) (fname_table d))
  unfolding names_ok
  third-table = and-1 (table_ok (name_table d) (aname_table d)) _ (and-1 (table_ok [] (name_table d)) _ h)

  -- no name is declared twice, in one table or in two
  pub names-distinct : T (distinct (all_names d))
  names-distinct =
      let one = table-distinct [] (name_table d) tt first-table in
      let two = table-distinct (name_table d) (aname_table d) one second-table in
      rw append_assoc at (table-distinct (name_table d ++ aname_table d) (fname_table d) two third-table)

  -- every name is of bytes that may stand between bars, is no word reserved, and has a first byte
  pub names-ok : All name_ok (all_names d)
  names-ok =
      all_append name_ok (name_table d) (aname_table d ++ fname_table d) (table-names [] (name_table d) first-table)
      (all_append name_ok (aname_table d) (fname_table d) (table-names (name_table d) (aname_table d) second-table) (table-names (name_table d ++ aname_table d) (fname_table d) third-table))

-- a table that declares a name that breaks a rule by itself does not pass
pub name-refused : (d : Dag) (n : Name) → (T (name_ok n) → ⊥) → T (in_list n (all_names d)) → names_ok d ≡ false
name-refused d n k h = no→false (names_ok d) λ t. k (every_in name_ok (all_names d) n (every-all name_ok (all_names d) (names-ok d t)) h)

-- as a reserved word does
pub word-refused : (n : Name) → T (in_list n reserved) → T (name_ok n) → ⊥
word-refused n w ok = T_not (in_list n reserved) (and-1 (first_ok n) (not (in_list n reserved)) (and-1 (every byte_ok n) _ ok)) w

-- and a name with a byte that no name may have
pub byte-refused : (n : Name) (c : ℕ) → T (among n c) → (NameByte c → ⊥) → T (name_ok n) → ⊥
byte-refused n c a k ok = k (name-byte c (among-every byte_ok n (and_0 (every byte_ok n) _ ok) c a))
