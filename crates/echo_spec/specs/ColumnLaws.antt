-- Laws of columns: what the test of their lengths says.
use Rattle.std.specs.Prelude.{ℕ, ◌≡◌, List, [], ◌∷◌, Bool, ◌&&◌, T, eqb, length}
use Rattle.std.proofs.Common.{eqb→eq}
use Rattle.lists.specs.Tests.{and_0, and-1}
use Rattle.lists.specs.Build.{length-tabulate}
use Rattle.echo_spec.specs.Input.{names_of, Dag}
use Rattle.echo_spec.specs.Tables.{one_length, columns_ok}

-- the columns of each table are as long as its first
pub record Aligned (d : Dag) : Type 0 where
  pub name_len : length d.name_len ≡ length d.name_start
  pub var_node : length d.var_node ≡ length d.name_start
  pub var_width : length d.var_width ≡ length d.name_start
  pub aname_len : length d.aname_len ≡ length d.aname_start
  pub index_width : length d.array-widths.index ≡ length d.aname_start
  pub value_width : length d.array-widths.value ≡ length d.aname_start
  pub fname_len : length d.fname_len ≡ length d.fname_start
  pub func_width : length d.func_width ≡ length d.fname_start

as_long : (c first : List ℕ) (rest : Bool) → T (eqb (length c) (length first) && rest) → length c ≡ length first
as_long c first rest h = eqb→eq (length c) (length first) (and_0 (eqb (length c) (length first)) rest h)

pub columns-aligned : (d : Dag) → T (columns_ok d) → Aligned d
unfolding columns_ok one_length
columns-aligned d t =
    let v = and_0 (one_length (d.name_start ∷ d.name_len ∷ d.var_node ∷ d.var_width ∷ [])) _ t in
    let t₁ = and-1 (one_length (d.name_start ∷ d.name_len ∷ d.var_node ∷ d.var_width ∷ [])) _ t in
    let a = and_0 (one_length (d.aname_start ∷ d.aname_len ∷ d.array-widths.index ∷ d.array-widths.value ∷ [])) _ t₁ in
    let f = and-1 (one_length (d.aname_start ∷ d.aname_len ∷ d.array-widths.index ∷ d.array-widths.value ∷ [])) _ t₁ in
    let v₁ = and-1 (eqb (length d.name_start) (length d.name_start)) _ v in
    let v₂ = and-1 (eqb (length d.name_len) (length d.name_start)) _ v₁ in
    let a₁ = and-1 (eqb (length d.aname_start) (length d.aname_start)) _ a in
    let a₂ = and-1 (eqb (length d.aname_len) (length d.aname_start)) _ a₁ in
    let f₁ = and-1 (eqb (length d.fname_start) (length d.fname_start)) _ f in
    record {
      name_len = as_long d.name_len d.name_start _ v₁;
      var_node = as_long d.var_node d.name_start _ v₂;
      var_width = as_long d.var_width d.name_start _ (and-1 (eqb (length d.var_node) (length d.name_start)) _ v₂);
      aname_len = as_long d.aname_len d.aname_start _ a₁;
      index_width = as_long d.array-widths.index d.aname_start _ a₂;
      value_width = as_long d.array-widths.value d.aname_start _ (and-1 (eqb (length d.array-widths.index) (length d.aname_start)) _ a₂);
      fname_len = as_long d.fname_len d.fname_start _ f₁;
      func_width = as_long d.func_width d.fname_start _ (and-1 (eqb (length d.fname_len) (length d.fname_start)) _ f₁);
    }

-- as many names as the table's first column has entries
pub names-counted : (arena starts lens : List ℕ) → length (names_of arena starts lens) ≡ length starts
unfolding names_of
names-counted arena starts lens = length-tabulate (length starts) _
